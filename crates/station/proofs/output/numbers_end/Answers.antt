-- `output::numbers_end` meets its contract. Assumes nothing.
use Prim.Native.Nat.{ℕ}
use native.Mathlib.Omega.{arith}
use mathlib.Core.List.{append_assoc}
use lib.ListN.{length-set}
use Rattle.station.specs.Text.{bytes}
use Rattle.station.proofs.output.TwoDigits.{after_number}
use Rattle.station.proofs.output.Runs.{wrote_byte, wrote_two, wrote_then}
use Rattle.station.proofs.output.numbers_end.Goals as goal

pub returns-then-saturating_sub-at : goal.returns-then-saturating_sub-at
unfolding bytes
returns-then-saturating_sub-at c = simp append_assoc at (wrote_then c.two_numbers-last.ensures c.word.ensures)

pub number_within-end-requires : goal.number_within-end-requires
number_within-end-requires c =
    let m = after_number c.args.m (omega arith) c.number_within-blank.ensures in
    omega (arith, m, length-set {A = ℕ})

pub bounds-out-end : goal.bounds-out-end
bounds-out-end c =
    let m = after_number c.args.m (omega arith) c.number_within-blank.ensures in
    let n = after_number c.args.n (omega arith) c.number_within-end.ensures in
    omega (arith, m, n, length-set {A = ℕ})

pub bounds-out-end-2 : goal.bounds-out-end-2
bounds-out-end-2 c =
    let m = after_number c.args.m (omega arith) c.number_within-blank.ensures in
    let n = after_number c.args.n (omega arith) c.number_within-end.ensures in
    omega (arith, m, n, length-set {A = ℕ})

pub returns : goal.returns
unfolding bytes
returns c =
    let m = after_number c.args.m (omega arith) c.number_within-blank.ensures in
    let n = after_number c.args.n (omega arith) c.number_within-end.ensures in
    let first = c.number_within-blank in
    let second = c.number_within-end in
    wrote_then first.ensures
    (wrote_then (wrote_byte first.new.out first.result 32 (omega (arith, m)))
    (wrote_then second.ensures (wrote_two second.new.out second.result 41 10 (omega (arith, m, n, length-set {A = ℕ})))))
