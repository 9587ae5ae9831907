use Rattle.std.proofs.Common.{◌+◌, ◌-◌, sym, ap, ◌∙◌, length, drop, arith}
use lib.ListN.{length-take, length-drop}
use Rattle.cases.proofs.record.RecordPutLaws.{put_behind}
use Rattle.cases.proofs.seats.EncodeLaws.{encoded_start, encoded_fits, encoded_next, encoded_none, encoded_end}
use Rattle.cases.proofs.seats.encode.Goals as goal
use Rattle.cases.proofs.seats.encode.Goals.{in-Some, in_default}

pub loop-k-init : goal.loop-k-init
loop-k-init c = encoded_start _ _

pub slice_bounds-put_record-count : goal.slice_bounds-put_record-count
slice_bounds-put_record-count c =
    let fits = encoded_fits c.loop-k.invariant (sym c.in-Some.ensures) c.loop-k-test.true c.requires in
    omega arith

pub slice_bounds-put_record-start : goal.slice_bounds-put_record-start
slice_bounds-put_record-start c =
    let fits = encoded_fits c.loop-k.invariant (sym c.in-Some.ensures) c.loop-k-test.true c.requires in
    omega arith

pub put_record-at-requires : goal.put_record-at-requires
put_record-at-requires c =
    let l = c.loop-k in
    let fits = encoded_fits l.invariant (sym c.in-Some.ensures) c.loop-k-test.true c.requires in
    let left = length-drop l.at l.out in
    let all = length-take (length l.out - l.at) (drop l.at l.out) in
    omega arith

pub loop-k-preserved : goal.loop-k-preserved
loop-k-preserved c =
    let l = c.loop-k in
    elim c.match-seat_at.branch [
      | in-Some w ↦
          let here = sym w.in-Some.ensures in
          let fits = encoded_fits l.invariant here c.loop-k-test.true c.requires in
          encoded_next l.invariant here (w.at-is ∙ ap (λ (n : _). l.at + n) w.put_record-at.ensures.0)
          (w.out-is ∙ rw w.put_record-at.ensures.1 (put_behind l.out _ l.at fits))
      | in_default w ↦ rw (w.out-is, w.at-is) (encoded_none l.invariant (sym w.in_default.ensures))
    ]

pub returns : goal.returns
returns c = encoded_end c.loop-k.invariant (omega arith) c.requires
