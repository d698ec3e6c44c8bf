-- The listing of a whole text, law by law.
--
-- In order: what a text that ran or was refused leaves once its listing is written (`lists_ran`,
-- `lists_refused`); the cause (`cause-..`); the entry's answers (`listed_refused`,
-- `listed_written`).
-- Assumes nothing.
use Prim.Native.Nat.{ℕ, ◌≤◌, ◌<◌}
use native.Mathlib.Omega.{arith}
use mathlib.Core.Path.{◌≡◌, refl, sym, ◌∙◌, ap, subst}
use mathlib.Core.Bool.{Bool}
use mathlib.Core.Option.{Option, none, some}
use mathlib.Core.Logic.{◌⊎◌, inl, inr}
use mathlib.Core.List.{List}
use lib.ListN.{length}
use lib.Dec.{ltb}
use Rattle.std.specs.Prelude.{Ok, Err}
use Rattle.laws.proofs.Tests.{Is, is, is_true, is_false}
use Rattle.laws.proofs.Comparisons.{lt_of, ge_of, ltb_yes, ltb_no}
use Rattle.station.specs.Refusal.{Refusal, too_short, text_too_long, first_of}
use Rattle.station.specs.Types.{refusal_in}
use Rattle.station.specs.Wrote.{moved, Wrote}
use Rattle.station.proofs.Theorems.{wrote_fits}
use Rattle.station.specs.declared.types.Preset as record-of-preset
use Rattle.station.specs.declared.types.Head as record-of-head
use Rattle.station.specs.declared.types.Refusal as cause
use Rattle.station.specs.WriteHead.{written, refused, answer_of, output_of}
use Rattle.station.specs.declared.types.Fault.{Fault}
use Rattle.frame.specs.Text.{Whole, not_read, not_planned, ran, whole_of}
use Rattle.frame.specs.Listing.{refused_line, listing_of}
use Rattle.frame.specs.TextDone.{End, TextRun, refused_at, end_in, end_of, table_after, output_after, Leaves}
use Rattle.frame.proofs.text.WholeText.{beside_whole, whole_long, whole_short}
use Rattle.frame.specs.WriteListing.{listing_cause, ListingOutcome, listing_written, listing_meant, Listed, ListedWhole}
use Rattle.frame.specs.method.ListingParts.{ListsBeside}
use Rattle.frame.proofs.listing.ListingSize.{listing_fits}

-- ---- the listing written

module _ {head : record-of-head.Head} {ps : List record-of-preset.Preset} {t : List ℕ} {clock : ℕ} {hold : Bool} {out t₁ out₁ : List ℕ} {r : TextRun} where
  pub lists_ran : (w : Whole) {m : ℕ} → Leaves w head ps t clock hold out t₁ out₁ r → r.ended ≡ Ok m
      → (t₁ ≡ table_after w t) × Wrote out 0 (listing_of w) out₁ m
  unfolding end_of output_after
  lists_ran (not_read n c) {m} x e = absurd (let q = x.ended in let z : ◌≡◌ {A = ℕ} 0 1 = cc (ap end_in e) in omega arith)
  lists_ran (not_planned h n c) {m} x e = absurd (let q = x.ended in let z : ◌≡◌ {A = ℕ} 0 1 = cc (ap end_in e) in omega arith)
  lists_ran (ran h n g y) {m} x e =
      let q : End.listed m ≡ End.listed (moved (length out) 0 (length (listing_of (ran h n g y)))) = sym (ap end_in e) ∙ x.ended in
      (x.table, record { output = x.output; position = cc })

  -- the one line of a refusal
  pub lists_refused : (w : Whole) {f : Fault} {out₂ : List ℕ} {m : ℕ} → Leaves w head ps t clock hold out t₁ out₁ r → r.ended ≡ Err f
      → Wrote out₁ 0 (refused_line f.line (refusal_in f.cause)) out₂ m → (t₁ ≡ table_after w t) × Wrote out 0 (listing_of w) out₂ m
  unfolding end_of output_after listing_of
  lists_refused (not_read k d) {f} {out₂} {m} x e z =
      let q : refused_at k d ≡ refused_at f.line (refusal_in f.cause) = sym x.ended ∙ ap end_in e in
      let i : k ≡ f.line = cc in
      let j : d ≡ refusal_in f.cause = cc in
      (x.table, rw (i, j) (rw x.output at z))
  lists_refused (not_planned h k d) {f} {out₂} {m} x e z =
      let q : refused_at k d ≡ refused_at f.line (refusal_in f.cause) = sym x.ended ∙ ap end_in e in
      let i : k ≡ f.line = cc in
      let j : d ≡ refusal_in f.cause = cc in
      (x.table, rw (i, j) (rw x.output at z))
  lists_refused (ran h k g y) {f} {out₂} {m} x e z = absurd (let q = x.ended in let i : ◌≡◌ {A = ℕ} 0 1 = cc (ap end_in e) in omega arith)

-- ---- the cause

module _ (text t out : List ℕ) where
  pub cause_long : 32768 < length text → listing_cause text t out ≡ some text_too_long
  unfolding listing_cause first_of
  cause_long l = rw (ltb_yes 32768 (length text) l, listing_cause) refl

  cause_short_output : length text ≤ 32768 → length out < 8192 → listing_cause text t out ≡ some too_short
  unfolding listing_cause first_of
  cause_short_output l s = rw (ltb_no 32768 (length text) l, ltb_yes (length out) 8192 s, listing_cause) refl

  cause_short_table : length text ≤ 32768 → 8192 ≤ length out → length t < 512 → listing_cause text t out ≡ some too_short
  unfolding listing_cause first_of
  cause_short_table l s m = rw (ltb_no 32768 (length text) l, ltb_no (length out) 8192 s, ltb_yes (length t) 512 m, listing_cause) refl

  -- an output or a table that is too short
  pub cause_short : length text ≤ 32768 → (length out < 8192) ⊎ ((8192 ≤ length out) × (length t < 512)) → listing_cause text t out ≡ some too_short
  cause_short l (inl s) = cause_short_output l s
  cause_short l (inr s) = cause_short_table l s.0 s.1

  cause_none : length text ≤ 32768 → 8192 ≤ length out → 512 ≤ length t → listing_cause text t out ≡ none
  unfolding listing_cause first_of
  cause_none l s m = rw (ltb_no 32768 (length text) l, ltb_no (length out) 8192 s, ltb_no (length t) 512 m, listing_cause) refl

  -- beside an output that is long enough, the cause is what the text comes to, at line 0
  pub cause_whole : (r : Refusal) → 8192 ≤ length out → listing_cause text t out ≡ some r → whole_of text t ≡ not_read 0 r
  cause_whole r s e = go (is (ltb 32768 (length text))) (is (ltb (length t) 512))
    where
      go : Is (ltb 32768 (length text)) → Is (ltb (length t) 512) → whole_of text t ≡ not_read 0 r
      go (is_true l) m =
          let q : some text_too_long ≡ some r = sym (cause_long (lt_of 32768 (length text) l)) ∙ e in
          whole_long text t (lt_of 32768 (length text) l) ∙ ap (not_read 0) cc
      go (is_false l) (is_true m) =
          let q : some too_short ≡ some r = sym (cause_short_table (ge_of 32768 (length text) l) s (lt_of (length t) 512 m)) ∙ e in
          whole_short text t (ge_of 32768 (length text) l) (lt_of (length t) 512 m) ∙ ap (not_read 0) cc
      go (is_false l) (is_false m) =
          let q : none ≡ some r = sym (cause_none (ge_of 32768 (length text) l) s (ge_of (length t) 512 m)) ∙ e in
          absurd (let z : ◌≡◌ {A = ℕ} 0 1 = cc in omega arith)

-- ---- the entry's answers

module _ (text t out : List ℕ) where
  -- a refusal leaves table and output
  pub listed_refused : (c : cause.Refusal) → listing_cause text t out ≡ some (refusal_in c)
      → Listed text t out t out (Err c) × (655360 ≤ length out → ListedWhole text t out out (Err c))
  unfolding listing_meant
  listed_refused c e =
      let m : listing_meant text t out ≡ record { answer = refused 0 (refusal_in c); table = t; output = out } = rw (e, listing_meant) refl in (
        record {
          answer = ap (λ (o : ListingOutcome). o.answer) (sym m);
          table = ap (λ (o : ListingOutcome). o.table) (sym m);
          output = ap (λ (o : ListingOutcome). o.output) (sym m);
        },
        λ long. record {
          answer = ap (λ (o : Option Refusal). answer_of o (length (listing_of (whole_of text t)))) (sym e);
          output = ap (λ (o : Option Refusal). output_of o (listing_of (whole_of text t)) out) (sym e);
        },
      )

  -- the listing that was written beside the output is the text's
  pub listed_written : {t₁ out₁ : List ℕ} {n : ℕ} → length text ≤ 32768 → 8192 ≤ length out → 512 ≤ length t → ListsBeside text t out t₁ out₁ n
      → Listed text t out t₁ out₁ (Ok n) × (655360 ≤ length out → ListedWhole text t out out₁ (Ok n))
  unfolding listing_meant
  listed_written {t₁} {out₁} {n} l s b x =
      let e = cause_none text t out l s b in
      let m : listing_meant text t out ≡ listing_written (whole_of text t) t out = rw (e, listing_meant) refl in
      let same = beside_whole text t out l s in
      let w : Wrote out 0 (listing_of (whole_of text t)) out₁ n = subst (λ (v : Whole). Wrote out 0 (listing_of v) out₁ n) same x.1 in (
        record {
          answer = ap written w.position ∙ ap (λ (o : ListingOutcome). o.answer) (sym m);
          table = x.0 ∙ ap (λ (v : Whole). table_after v t) same ∙ ap (λ (o : ListingOutcome). o.table) (sym m);
          output = w.output ∙ ap (λ (o : ListingOutcome). o.output) (sym m);
        },
        λ long.
            let f = wrote_fits w (omega (arith, long, listing_fits text t)) in record {
              answer = ap written f.1 ∙ ap (λ (o : Option Refusal). answer_of o (length (listing_of (whole_of text t)))) (sym e);
              output = f.0 ∙ ap (λ (o : Option Refusal). output_of o (listing_of (whole_of text t)) out) (sym e);
            },
      )
