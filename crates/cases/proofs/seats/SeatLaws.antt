-- Laws of `seat_of`: what stands at a seat, by the part of the case that it belongs to. Assumes nothing.
use Prim.Native.Nat.{ℕ, ◌+◌, ◌-◌, ◌<◌}
use mathlib.Core.Path.{◌≡◌, sym, ◌∙◌}
use lib.Dec.{ltb}
use borrow.Author.Tests.{lt-ltb, le-ltb, ltb-true, ltb-false}
use native.Mathlib.Omega.{arith}
use Rattle.cases.specs.declared.case.Case.{Case}
use Rattle.cases.specs.declared.record.Record.{Record}
use Rattle.std.specs.declared.option.Option.{Option}
use Rattle.cases.specs.Sizes.{most_threads, most_locations, all_code}
use Rattle.cases.specs.Choice.{pick}
use Rattle.cases.specs.Seats.{from_firsts, from_code, from_wants, from_passed, from_steps, seat_of}
use Rattle.cases.specs.Seats.{header_seat, first_seat, instruction_seat, want_seat, passed_seat}
use Rattle.cases.specs.Seats.{step_seat}
use Rattle.cases.proofs.ChoiceLaws.{pick_cases}

-- seat_of: the seats of each kind
module _ (c : Case) (k : ℕ) where
  pub seat_header : k ≡ 0 → seat_of c k ≡ header_seat c
  unfolding seat_of pick
  seat_header e = rw e

  module _ (i : ℕ) where
    pub seat_first : k ≡ from_firsts + i → i < most_locations → seat_of c k ≡ first_seat c.program i
    unfolding seat_of pick
    seat_first e h =
        let at : k - from_firsts ≡ i = omega arith in
        rw (le-ltb k from_firsts (omega arith), lt-ltb k from_code (omega arith), at)

    pub seat_code : k ≡ from_code + i → i < all_code → seat_of c k ≡ instruction_seat c.program i
    unfolding seat_of pick
    seat_code e h =
        let at : k - from_code ≡ i = omega arith in
        rw (
          le-ltb k from_firsts (omega arith),
          le-ltb k from_code (omega arith),
          lt-ltb k from_wants (omega arith),
          at,
        )

    pub seat_want : k ≡ from_wants + i → i < most_locations → seat_of c k ≡ want_seat c.ask i
    unfolding seat_of pick
    seat_want e h =
        let at : k - from_wants ≡ i = omega arith in
        rw (
          le-ltb k from_firsts (omega arith),
          le-ltb k from_code (omega arith),
          le-ltb k from_wants (omega arith),
          lt-ltb k from_passed (omega arith),
          at,
        )

    pub seat_passed : k ≡ from_passed + i → i < most_threads → seat_of c k ≡ passed_seat c.ask i
    unfolding seat_of pick
    seat_passed e h =
        let at : k - from_passed ≡ i = omega arith in
        rw (
          le-ltb k from_firsts (omega arith),
          le-ltb k from_code (omega arith),
          le-ltb k from_wants (omega arith),
          le-ltb k from_passed (omega arith),
          lt-ltb k from_steps (omega arith),
          at,
        )

    pub seat_step : k ≡ from_steps + i → seat_of c k ≡ step_seat c.run i
    unfolding seat_of pick
    seat_step e =
        let at : k - from_steps ≡ i = omega arith in
        rw (
          le-ltb k from_firsts (omega arith),
          le-ltb k from_code (omega arith),
          le-ltb k from_wants (omega arith),
          le-ltb k from_passed (omega arith),
          le-ltb k from_steps (omega arith),
          at,
        )

-- what holds of each part at a seat holds of what stands there
pub seat_cases {ℓ} : (P : Option Record → Type ℓ) (c : Case) (j : ℕ)
    → (j ≡ 0 → P (header_seat c))
    → ((l : ℕ) → j ≡ from_firsts + l → l < most_locations → P (first_seat c.program l))
    → ((m : ℕ) → j ≡ from_code + m → m < all_code → P (instruction_seat c.program m))
    → ((l : ℕ) → j ≡ from_wants + l → l < most_locations → P (want_seat c.ask l))
    → ((t : ℕ) → j ≡ from_passed + t → t < most_threads → P (passed_seat c.ask t))
    → ((k : ℕ) → j ≡ from_steps + k → P (step_seat c.run k))
    → P (seat_of c j)
unfolding seat_of
seat_cases P c j header first code want passed steps =
    pick_cases P (ltb j from_firsts) _ _
    (λ h. header (omega (arith, ltb-true j from_firsts h)))
    (λ h₁. pick_cases P (ltb j from_code) _ _
    (λ h. first _ (omega (arith, ltb-false j from_firsts h₁)) (omega (arith, ltb-true j from_code h)))
    (λ h₂. pick_cases P (ltb j from_wants) _ _
    (λ h. code _ (omega (arith, ltb-false j from_code h₂)) (omega (arith, ltb-true j from_wants h)))
    (λ h₃. pick_cases P (ltb j from_passed) _ _
    (λ h. want _ (omega (arith, ltb-false j from_wants h₃)) (omega (arith, ltb-true j from_passed h)))
    (λ h₄. pick_cases P (ltb j from_steps) _ _
    (λ h. passed _ (omega (arith, ltb-false j from_passed h₄)) (omega (arith, ltb-true j from_steps h)))
    (λ h₅. steps _ (omega (arith, ltb-false j from_steps h₅)))))))

-- two cases have the same at a seat, if the part that it belongs to has
pub seat_same : (c d : Case) (j : ℕ)
    → (j ≡ 0 → header_seat c ≡ header_seat d)
    → ((l : ℕ) → j ≡ from_firsts + l → first_seat c.program l ≡ first_seat d.program l)
    → ((m : ℕ) → j ≡ from_code + m → instruction_seat c.program m ≡ instruction_seat d.program m)
    → ((l : ℕ) → j ≡ from_wants + l → want_seat c.ask l ≡ want_seat d.ask l)
    → ((t : ℕ) → j ≡ from_passed + t → passed_seat c.ask t ≡ passed_seat d.ask t)
    → ((k : ℕ) → j ≡ from_steps + k → step_seat c.run k ≡ step_seat d.run k)
    → seat_of c j ≡ seat_of d j
seat_same c d j header first code want passed steps =
    seat_cases (λ (x : Option Record). x ≡ seat_of d j) c j
    (λ e. header e ∙ sym (seat_header d j e))
    (λ l e h. first l e ∙ sym (seat_first d j l e h))
    (λ m e h. code m e ∙ sym (seat_code d j m e h))
    (λ l e h. want l e ∙ sym (seat_want d j l e h))
    (λ t e h. passed t e ∙ sym (seat_passed d j t e h))
    (λ k e. steps k e ∙ sym (seat_step d j k e))
