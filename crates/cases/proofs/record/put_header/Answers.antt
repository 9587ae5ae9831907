-- `put_header` meets its contract: the front is put, and the line bytes behind it. Assumes nothing.
use Rattle.std.proofs.Common.{◌≡◌, ◌≤◌, ◌+◌, ◌-◌, ◌++◌, ◌∙◌, length, take, drop, arith, rules}
use lib.ListN.{length-take, length-drop}
use Rattle.cases.specs.Sizes.{most_locations}
use Rattle.cases.specs.Bytes.{half_bytes}
use Rattle.cases.proofs.record.RecordPutLaws.{put_behind, header_front, listed_is, line_bytes_front, header_size, header_put}
use Rattle.cases.proofs.record.put_header.Goals as goal

pub put-end-requires : goal.put-end-requires
put-end-requires c =
    let h = c.args.h.now in
    let long : length h.line ≡ most_locations = search rules in
    omega (arith, header_size h long _ (listed_is h long _ c.min-n.ensures))

pub put-requires : goal.put-requires
put-requires c =
    let h = c.args.h.now in
    let long : length h.line ≡ most_locations = search rules in
    let size = header_size h long _ (listed_is h long _ c.min-n.ensures) in
    let few = length-take c.min-n.result h.line in
    let kept : length c.put-end.new.out ≡ length c.args.out.now = search rules in
    let left = length-drop c.put-end.result c.put-end.new.out in
    let all = length-take (length c.put-end.new.out - c.put-end.result) (drop c.put-end.result c.put-end.new.out) in
    omega (arith, c.min-n.ensures, c.put-end.ensures.0)

pub returns : goal.returns
unfolding half_bytes
returns c =
    let h = c.args.h.now in
    let out = c.args.out.now in
    let long : length h.line ≡ most_locations = search rules in
    let n = listed_is h long _ c.min-n.ensures in
    let size = header_size h long _ n in
    let few = length-take c.min-n.result h.line in
    let front : c.put-end.new.out ≡ header_front h c.min-n.result ++ drop 8 out
    = rw c.half_bytes-v.ensures at c.put-end.ensures.1 in
    let kept : length c.put-end.new.out ≡ length out = search rules in
    let fit : c.put-end.result + length (take c.min-n.result h.line) ≤ length c.put-end.new.out
    = omega (arith, c.min-n.ensures, c.put-end.ensures.0) in (
      omega (arith, c.min-n.ensures, c.put.ensures.0, c.put-end.ensures.0),
      rw c.put.ensures.1
          (put_behind c.put-end.new.out (take c.min-n.result h.line) c.put-end.result fit
          ∙ rw (line_bytes_front h long _ n, front, c.put-end.ensures.0) (header_put h long _ n out (omega (arith, size)))),
    )
