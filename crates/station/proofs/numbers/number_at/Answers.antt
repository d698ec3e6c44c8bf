-- `number_at` meets its contract. The invariant: the digits from `i` on end where those from `at` on do, and after `value` they make the same
-- number, as it is read. The measure is what is left of the text.
-- Assumes nothing.
use Prim.Native.Nat.{◌+◌}
use native.Mathlib.Omega.{arith}
use native.Mathlib.Numerals.{add-one}
use mathlib.Core.Path.{◌≡◌, refl, sym, ◌∙◌}
use lib.ListN.{drop}
use Rattle.station.specs.Decimal.{digit_count}
use Rattle.station.specs.method.Numeral.{front}
use Rattle.station.proofs.numbers.Decimals.{lead, count_more, count_none, front_none, plain_none, plain_digits, seen_more}
use Rattle.station.specs.Jobs.{seen}
use Rattle.station.proofs.numbers.number_at.Goals as goal

pub returns-then-not-digit_at : goal.returns-then-not-digit_at
returns-then-not-digit_at c = let s = c.args in
    let t = s.text.now in
    let d = c.digit_at in
    let no = sym d.ensures ∙ c.if-not-digit_at.true in
    let n = count_none t s.at no in
    rw (plain_none t s.at n) refl

pub bounds-text-at : goal.bounds-text-at
bounds-text-at c = let s = c.args in
    let d = c.digit_at in
    let yes = sym d.ensures ∙ c.if-not-digit_at.false in
    (lead s.text.now s.at yes).inside

pub with_digit-value-requires : goal.with_digit-value-requires
with_digit-value-requires c = let s = c.args in
    let d = c.digit_at in
    let yes = sym d.ensures ∙ c.if-not-digit_at.false in
    (omega arith, (lead s.text.now s.at yes).low)

pub overflow_add-i : goal.overflow_add-i
overflow_add-i c = let s = c.args in
    let d = c.digit_at in
    let yes = sym d.ensures ∙ c.if-not-digit_at.false in
    let h = lead s.text.now s.at yes in
    omega arith

pub loop-value-init : goal.loop-value-init
loop-value-init c = let s = c.args in
    let d = c.digit_at in
    let yes = sym d.ensures ∙ c.if-not-digit_at.false in
    let t = s.text.now in
    let w = c.with_digit-value.ensures in
    rw (add-one s.at) (omega arith, omega (arith, count_more t s.at yes), seen_more t s.at 0 c.with_digit-value.result yes w)

pub bounds-text-i : goal.bounds-text-i
bounds-text-i c = let s = c.args in
    let l = c.loop-value in
    let yes = sym c.digit_at-in-loop-value.ensures ∙ c.loop-value-test.true in
    (lead s.text.now l.i yes).inside

pub with_digit-value-requires-in-loop-value : goal.with_digit-value-requires-in-loop-value
with_digit-value-requires-in-loop-value c = let s = c.args in
    let l = c.loop-value in
    let yes = sym c.digit_at-in-loop-value.ensures ∙ c.loop-value-test.true in
    (l.invariant.0, (lead s.text.now l.i yes).low)

pub overflow_add-i-in-loop-value : goal.overflow_add-i-in-loop-value
overflow_add-i-in-loop-value c = let s = c.args in
    let l = c.loop-value in
    let yes = sym c.digit_at-in-loop-value.ensures ∙ c.loop-value-test.true in
    let h = lead s.text.now l.i yes in
    omega arith

pub loop-value-smaller : goal.loop-value-smaller
loop-value-smaller c = let s = c.args in
    let l = c.loop-value in
    let yes = sym c.digit_at-in-loop-value.ensures ∙ c.loop-value-test.true in
    let h = lead s.text.now l.i yes in
    omega arith

pub loop-value-preserved : goal.loop-value-preserved
loop-value-preserved c = let s = c.args in
    let l = c.loop-value in
    let yes = sym c.digit_at-in-loop-value.ensures ∙ c.loop-value-test.true in
    let t = s.text.now in
    let w = c.with_digit-value-in-loop-value.ensures in
    rw (add-one l.i)
    (omega arith, omega (arith, count_more t l.i yes), seen_more t l.i l.value c.with_digit-value-in-loop-value.result yes w ∙ l.invariant.2)

pub bounds-text-at-2 : goal.bounds-text-at-2
bounds-text-at-2 c = let s = c.args in
    let d = c.digit_at in
    let yes = sym d.ensures ∙ c.if-not-digit_at.false in
    (lead s.text.now s.at yes).inside

pub overflow_add-found : goal.overflow_add-found
overflow_add-found c = let s = c.args in
    let d = c.digit_at in
    let yes = sym d.ensures ∙ c.if-not-digit_at.false in
    let h = lead s.text.now s.at yes in
    omega arith

pub returns : goal.returns
returns c = let s = c.args in
    let d = c.digit_at in
    let yes = sym d.ensures ∙ c.if-not-digit_at.false in
    let t = s.text.now in
    let l = c.loop-value in
    let no = sym c.digit_at-in-loop-value.ensures ∙ c.loop-value-test.false in
    let n : l.i ≡ s.at + digit_count (drop s.at t) = omega (arith, count_none t l.i no) in
    let v : l.value ≡ seen (front (drop s.at t)) = omega (arith, front_none t l.i l.value no, l.invariant.2) in
    c.then_some.ensures ∙ (rw (plain_digits t s.at l.i yes (sym n), n, v) refl)
