-- What the program prints of a text: the listing that the library wrote (`printed_listing`), or the one line of a text that it did not take
-- (`printed_refusal`); that this is there whole (`printed_bytes`).
-- Assumes nothing.
use Prim.Native.Nat.{ℕ, ◌≤◌}
use native.Mathlib.Omega.{arith}
use mathlib.Core.Path.{◌≡◌, refl, sym, ◌∙◌, ap}
use mathlib.Core.Option.{Option, none, some}
use mathlib.Core.List.{List, []}
use Rattle.std.specs.Prelude.{Result, Ok, Err}
use Rattle.std.specs.Result.{result_unwrap_or}
use lib.ListN.{length, take, drop, length-append}
use lib.Seq.{take_at}
use Rattle.laws.proofs.Comparisons.{ltb_no}
use Rattle.station.specs.Refusal.{Refusal, first_of}
use Rattle.station.specs.Types.{refusal_in}
use Rattle.station.specs.declared.types.Refusal as cause
use Rattle.station.specs.WriteHead.{written, refused, answer_of, output_of}
use Rattle.frame.specs.Event as meant
use Rattle.frame.specs.Text.{whole_of}
use Rattle.frame.specs.Listing.{refused_line, answer_line, listing_of}
use Rattle.frame.specs.WroteLine.{line_written, answer_written, WroteLine}
use Rattle.frame.specs.WriteListing.{listing_cause, ListedWhole}
use Rattle.frame.proofs.Theorems.{cause_whole}

module _ {text t out out₁ : List ℕ} (long : 655360 ≤ length out) where
  -- the listing stands there already
  pub printed_listing : {n : ℕ} → ListedWhole text t out out₁ (Ok n) → WroteLine (line_written [] (listing_of (whole_of text t)) out) (Ok n) out₁
  unfolding line_written first_of
  printed_listing {n} w = go (listing_cause text t out) refl
    where
      go : (o : Option Refusal) → listing_cause text t out ≡ o → WroteLine (line_written [] (listing_of (whole_of text t)) out) (Ok n) out₁
      go none e = record {
        answer = w.answer ∙ ap (λ (o : Option Refusal). answer_of o (length (listing_of (whole_of text t)))) e;
        output = w.output ∙ ap (λ (o : Option Refusal). output_of o (listing_of (whole_of text t)) out) e;
      }
      go (some r) e =
          let q : written n ≡ refused 0 r = w.answer ∙ ap (λ (o : Option Refusal). answer_of o (length (listing_of (whole_of text t)))) e in
          absurd (let z : ◌≡◌ {A = ℕ} 0 1 = cc in omega arith)

  -- the one line of a text that was not taken, where the refusal left the output
  pub printed_refusal : {c : cause.Refusal} {out₂ : List ℕ} {r : Result ℕ cause.Refusal} → ListedWhole text t out out₁ (Err c)
      → WroteLine (answer_written 0 (Err c) out₁) r out₂ → WroteLine (line_written [] (listing_of (whole_of text t)) out) r out₂
  unfolding line_written first_of answer_line listing_of
  printed_refusal {c} {out₂} {r} w x = go (listing_cause text t out) refl
    where
      go : (o : Option Refusal) → listing_cause text t out ≡ o → WroteLine (line_written [] (listing_of (whole_of text t)) out) r out₂
      go none e =
          let q : refused 0 (refusal_in c) ≡ written (length (listing_of (whole_of text t))) =
          w.answer ∙ ap (λ (o : Option Refusal). answer_of o (length (listing_of (whole_of text t)))) e in
          absurd (let z : ◌≡◌ {A = ℕ} 0 1 = cc in omega arith)
      go (some d) e =
          let q : refused 0 (refusal_in c) ≡ refused 0 d = w.answer ∙ ap (λ (o : Option Refusal). answer_of o (length (listing_of (whole_of text t)))) e in
          let same : out₁ ≡ out = w.output ∙ ap (λ (o : Option Refusal). output_of o (listing_of (whole_of text t)) out) e in
          let is-line : listing_of (whole_of text t) ≡ answer_line 0 (meant.Answer.refused 0 (refusal_in c)) =
          ap listing_of (cause_whole text t out d (omega (arith, long)) e) ∙ ap (refused_line 0) (let i : d ≡ refusal_in c = cc in i) in
          let o : WroteLine (answer_written 0 (Err c) out) r out₂ = rw same at x in
          let enough = ltb_no (length out) 8192 (omega (arith, long)) in
          rw is-line (record { answer = o.answer ∙ rw enough refl; output = o.output ∙ rw enough refl })

-- no such writing is refused, and the bytes that were written are the line, whole
pub printed_bytes : (line out : List ℕ) {out₁ : List ℕ} (r : Result ℕ cause.Refusal) {n : ℕ} → WroteLine (line_written [] line out) r out₁ → n ≡ result_unwrap_or r 0
    → (n ≤ length out₁) × (take n out₁ ≡ line)
unfolding line_written first_of
printed_bytes line out (Ok k) {n} w e =
    let q : written k ≡ written (length line) = w.answer in
    let s : k ≡ length line = cc in
    let i : n ≡ length line = e ∙ s in (
      omega (arith, i, ap length w.output, length-append line (drop (length line) out)),
      ap (take n) w.output ∙ take_at line (drop (length line) out) n (sym i),
    )
printed_bytes line out (Err c) w e =
    let q : refused 0 (refusal_in c) ≡ written (length line) = w.answer in
    absurd (let z : ◌≡◌ {A = ℕ} 0 1 = cc in omega arith)
