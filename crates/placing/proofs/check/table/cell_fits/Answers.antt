-- `check::table::cell_fits` meets its contract: each answer is the definition at the tests that led to it. Assumes nothing.
use native.Mathlib.Omega.{arith}
use Prim.Native.Nat.{◌+◌, ◌-◌, ◌≤◌}
use mathlib.Core.Path.{◌≡◌, sym}
use mathlib.Core.Logic.{inl, inr}
use borrow.Author.Tests.{eq-eqb, ne_eqb, lt-ltb, le-ltb, le-leb, lt-leb}
use Rattle.placing.specs.method.Check.{cell_fits}
use Rattle.placing.proofs.check.table.cell_fits.Goals as goal
use Rattle.placing.proofs.check.table.cell_fits.Goals.{then-v-ne-CALL, else-v-ne-CALL}

pub returns-then-busy : goal.returns-then-busy
unfolding cell_fits
returns-then-busy c = simp c.if-busy.true

pub returns-then-v-lt-MANDATORY : goal.returns-then-v-lt-MANDATORY
unfolding cell_fits
returns-then-v-lt-MANDATORY c = simp (c.if-busy.false, lt-ltb _ _ c.if-v-lt-MANDATORY.true)

pub returns-then-v-lt-VALUES : goal.returns-then-v-lt-VALUES
unfolding cell_fits
returns-then-v-lt-VALUES c = simp (
  c.if-busy.false,
  le-ltb _ _ c.if-v-lt-MANDATORY.false,
  le-leb _ _ c.if-v-ge-CALL.true,
  ne_eqb _ _ c.if-v-lt-VALUES.true.0,
  lt-ltb _ _ c.if-v-lt-VALUES.true.1,
  sym c.number_in-n.ensures.0,
)

pub returns-else-v-lt-VALUES : goal.returns-else-v-lt-VALUES
unfolding cell_fits
returns-else-v-lt-VALUES c = elim c.if-v-ne-CALL.branch [
  | then-v-ne-CALL w ↦
      let high : 1280 ≤ c.args.v = elim c.if-v-lt-VALUES.either [ inl p ↦ p.1 | inr e ↦ absurd (w.if-v-ne-CALL.true e) ] in
      simp (w.t-8-is, c.if-busy.false, le-ltb _ _ c.if-v-lt-MANDATORY.false, le-leb _ _ c.if-v-ge-CALL.true, ne_eqb _ _ w.if-v-ne-CALL.true, le-ltb _ _ high)
  | else-v-ne-CALL w ↦ simp (w.t-8-is, c.if-busy.false, le-ltb _ _ c.if-v-lt-MANDATORY.false, le-leb _ _ c.if-v-ge-CALL.true, eq-eqb _ _ w.if-v-ne-CALL.false)
]

pub returns-then-v-ge-OPTIONAL : goal.returns-then-v-ge-OPTIONAL
unfolding cell_fits
returns-then-v-ge-OPTIONAL c = simp (
  c.if-busy.false,
  le-ltb _ _ c.if-v-lt-MANDATORY.false,
  lt-leb _ _ c.if-v-ge-CALL.false,
  sym c.number_in-n.ensures.0,
  ne_eqb _ _ c.if-numbers-n-ne0.true,
  le-leb _ _ c.if-v-ge-OPTIONAL.true,
)

pub returns-else-v-ge-OPTIONAL : goal.returns-else-v-ge-OPTIONAL
unfolding cell_fits
returns-else-v-ge-OPTIONAL c =
    let place : c.args.v - 512 + 256 ≡ 256 + c.number_in-n.result = omega (arith, c.number_in-n.ensures.0, c.if-v-lt-MANDATORY.false, c.if-v-ge-OPTIONAL.false) in
    simp (
      c.if-busy.false,
      le-ltb _ _ c.if-v-lt-MANDATORY.false,
      lt-leb _ _ c.if-v-ge-CALL.false,
      sym c.number_in-n.ensures.0,
      ne_eqb _ _ c.if-numbers-n-ne0.true,
      lt-leb _ _ c.if-v-ge-OPTIONAL.false,
      place,
    )

pub returns-else-numbers-n-ne0 : goal.returns-else-numbers-n-ne0
unfolding cell_fits
returns-else-numbers-n-ne0 c = simp (
  c.if-busy.false,
  le-ltb _ _ c.if-v-lt-MANDATORY.false,
  lt-leb _ _ c.if-v-ge-CALL.false,
  sym c.number_in-n.ensures.0,
  eq-eqb _ _ c.if-numbers-n-ne0.false,
)
