-- The table after the cells of the frame were written: its cells, its length, what stands past the frame.
--
-- In order: a cell's place (`place_below`, `frame_cells`); the cells (`cell_written`); the rest (`written_past`).
-- Assumes nothing.
use Prim.Native.Nat.{ℕ, suc, ◌+◌, ◌*◌, ◌/◌, ◌%◌, ◌≤◌, ◌<◌}
use native.Mathlib.Nat.{mul-le-mul_right, mul-le-mul, suc-mul}
use native.Mathlib.Omega.{arith}
use mathlib.Core.Path.{◌≡◌, ◌∙◌, ap₂}
use mathlib.Core.List.{List}
use lib.ListN.{length, drop, length-append, length-drop, get_or-append}
use lib.Seq.{drop_at}
use lib.Arith.{digits_div, digits_mod}
use Rattle.laws.specs.Lists.{tabulate}
use Rattle.laws.proofs.Lists.{length_tabulate, at_tabulate}
use Rattle.station.specs.Head.{Head, Valid}
use Rattle.placing.specs.Table.{Cells, Each, cell}
use Rattle.placing.specs.Outcomes.{written}
use Rattle.placing.specs.Claims.{SamePast}

-- a cell's place lies in the frame
pub place_below : (n m s b : ℕ) → s < n → b < m → s * m + b < n * m
place_below n m s b l k = omega (arith, suc-mul s m, mul-le-mul_right {m = suc s} {n = n} m l)

-- a frame within the limits has no more cells than the table
pub frame_cells : (h : Head) → Valid h → h.slots * h.bridges ≤ 512
frame_cells h v = mul-le-mul v.slots_high v.bridges_high

-- each cell of the frame is what was written there
pub cell_written : (h : Head) (u : Cells) (t : List ℕ) → Each h (λ s b. cell h (written h u t) s b ≡ u s b)
unfolding written
cell_written h u t s b l k =
    let B = h.bridges in
    let n = h.slots * h.bridges in
    let v : ℕ → ℕ = λ i. u (i / B) (i % B) in
    let below : s * B + b < n = place_below h.slots B s b l k in
    get_or-append (tabulate n v) (drop n t) 0 (s * B + b) (omega (arith, length_tabulate n v))
    ∙ at_tabulate n v (s * B + b) below
    ∙ ap₂ (λ (x y : ℕ). u x y) (digits_div s k) (digits_mod s k)

pub written_past : (h : Head) (u : Cells) (t : List ℕ) → h.slots * h.bridges ≤ length t → SamePast h t (written h u t)
unfolding written
written_past h u t enough =
    let n = h.slots * h.bridges in
    let v : ℕ → ℕ = λ i. u (i / h.bridges) (i % h.bridges) in
    record {
      long = omega (arith, length-append (tabulate n v) (drop n t), length_tabulate n v, length-drop n t);
      past = drop_at (tabulate n v) (drop n t) n (length_tabulate n v);
    }
