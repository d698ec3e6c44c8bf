-- Laws of the forms: recognising inverts printing, both ways.
--
-- In order: a word read (`word_had`); what is left (`whole_had`, `or_had`); brackets (`brackets_self`, `brackets_had`, and their recursion `brackets_step`); jobs by the pairs that
-- their brackets are (`as_jobs`, `read_jobs_lem`);
-- `form_self` and `form_had`, the two inverses, and `print_injective`; a printed form is one line (`print_line`), so forms printed one after the other have these
-- lines (`lines_prints`).
-- Assumes nothing.
use Prim.Native.Nat.{ℕ, zero, suc, ◌≤◌}
use native.Mathlib.Omega.{arith}
use mathlib.Core.Path.{◌≡◌, refl, sym, ◌∙◌, ap}
use mathlib.Core.Bool.{true, false, cond, ◌&&◌}
use mathlib.Core.Option.{Option, none, some}
use mathlib.Core.List.{List, [], ◌∷◌, ◌++◌, map}
use lib.ListN.{length, take, drop, length-append, length-drop}
use lib.Dec.{eqb}
use Rattle.laws.proofs.Tests.{Is, is_true, is_false, is, clash, left_of, right_of, none_some}
use Rattle.laws.proofs.Comparisons.{eq_of, eqb_no}
use Rattle.station.specs.Head.{preset_of, job_of}
use Rattle.station.specs.Text.{bytes, ◌then◌, is_line, is_rest, join, lines, Lines, no_lines, line_then}
use Rattle.station.specs.Decimal.{digits, digit_count, is_digit, plain, value}
use Rattle.station.specs.Form.{Pairs, last, next, Form, frame_line, busy_line, preset_line, clock_line, call_line, tie_line, supply_line, brackets, print, starts, word}
use Rattle.station.specs.Form.{number, whole, ◌or_else◌, also, made, brackets_in, read_brackets, frame_in, busy_in, preset_in, clock_in, call_in, tie_in, supply_in, form}
use Rattle.station.specs.Form.{CallJobs, last_job, next_job, job_brackets, also_job, job_list_in, read_jobs}
use Rattle.station.proofs.Decimal.{digit_low, all_digits, digits_count, number_digits, number_had}
use Rattle.station.proofs.Text.{is_line_cons, rest_line, lines_of_join}

-- ---- a word read

starts_had : (w l : List ℕ) → starts w l ≡ true → l ≡ w ++ drop (length w) l
unfolding starts
starts_had [] l e = refl
starts_had (c ∷ w) [] e = absurd (clash (sym e))
starts_had (c ∷ w) (b ∷ l) e =
    let here : c ≡ b = eq_of c b (left_of (eqb c b) (starts w l) e) in
    let later : l ≡ w ++ drop (length w) l = starts_had w l (right_of (eqb c b) (starts w l) e) in
    ap (λ (x : ℕ). x ∷ l) (sym here) ∙ ap (λ (x : List ℕ). c ∷ x) later

module _ {A : Type 0} where
  -- it read, so the text was the word and then the rest
  pub word_had : {G : Type 0} (w l : List ℕ) (k : List ℕ → Option A) (a : A) → word w l k ≡ some a
      → ((r : List ℕ) → l ≡ w ++ r → k r ≡ some a → G) → G
  unfolding word
  word_had {G} w l k a e f = go (is (starts w l)) e
    where
      go : Is (starts w l) → word w l k ≡ some a → G
      go (is_true s) e = f (drop (length w) l) (starts_had w l s) (rw s at e)
      go (is_false s) e = absurd (none_some (rw s at e))

  -- ---- what is left

  pub whole_had : {G : Type 0} (b : A) (l : List ℕ) (a : A) → whole b l ≡ some a → (l ≡ [] → b ≡ a → G) → G
  whole_had b [] a e f = f refl (cc)
  whole_had b (x ∷ l) a e f = absurd (none_some e)

  pub or_had : {G : Type 0} (x y : Option A) (a : A) → (x or_else y) ≡ some a → (x ≡ some a → G) → (y ≡ some a → G) → G
  or_had none y a e f g = g e
  or_had (some x) y a e f g = f e

  -- what was found stays found
  or_first : (x y : Option A) {a : A} → x ≡ some a → (x or_else y) ≡ some a
  or_first x y e = rw e refl

made_had : {A B G : Type 0} (f : A → B) (x : Option A) (b : B) → made f x ≡ some b → ((a : A) → x ≡ some a → f a ≡ b → G) → G
made_had f none b e g = absurd (none_some e)
made_had f (some a) b e g = g a refl (cc)

also_had : {G : Type 0} (m n : ℕ) (x : Option Pairs) (p : Pairs) → also m n x ≡ some p → ((q : Pairs) → x ≡ some q → next m n q ≡ p → G) → G
also_had m n none p e g = absurd (none_some e)
also_had m n (some q) p e g = g q refl (cc)

-- ---- brackets

after_le : (a r : List ℕ) → length r ≤ length (a ++ r)
after_le a r = omega (arith, length-append a r)

brackets_in_self : (k : ℕ) (p : Pairs) → length (brackets p) ≤ k → brackets_in k (brackets p) ≡ some p
unfolding brackets brackets_in bytes digit_count word starts
brackets_in_self zero (last m n) h = absurd (omega arith)
brackets_in_self zero (next m n p) h = absurd (omega arith)
brackets_in_self (suc k) (last m n) h =
    number_digits m (bytes " " then digits n then bytes "))\n") _ refl
    ∙ number_digits n (bytes "))\n") _ refl
brackets_in_self (suc k) (next m n p) h =
    number_digits m (bytes " " then digits n then bytes ") " then brackets p) _ refl
    ∙ number_digits n (bytes ") " then brackets p) _ refl
    ∙ ap (also m n)
    (brackets_in_self k p
    (omega (arith, after_le (digits m) (bytes " " then digits n then bytes ") " then brackets p), after_le (digits n) (bytes ") " then brackets p))))

brackets_in_had : (k : ℕ) (l : List ℕ) (p : Pairs) → brackets_in k l ≡ some p → l ≡ brackets p
unfolding brackets brackets_in bytes
brackets_in_had zero l p e = absurd (none_some e)
brackets_in_had (suc k) l p e =
    word_had (bytes "(") l _ p e (λ l₁ e₁ q₁. number_had l₁ _ p q₁ (λ m l₂ e₂ c₂ q₂. word_had (bytes " ") l₂ _ p q₂ (λ l₃ e₃ q₃.
    number_had l₃ _ p q₃ (λ n l₄ e₄ c₄ q₄. or_had (word (bytes "))\n") l₄ (whole (last m n))) _ p q₄
    (λ q. word_had (bytes "))\n") l₄ _ p q (λ l₅ e₅ q₅. whole_had (last m n) l₅ p q₅ (λ e₆ e₇. rw (e₁, e₂, e₃, e₄, e₅, e₆, ← e₇) refl)))
    (λ q. word_had (bytes ") ") l₄ _ p q (λ l₅ e₅ q₅. also_had m n (brackets_in k l₅) p q₅ (λ r e₆ e₇.
    rw (e₁, e₂, e₃, e₄, e₅, brackets_in_had k l₅ r e₆, ← e₇) refl)))))))

pub brackets_self : (p : Pairs) → read_brackets (brackets p) ≡ some p
unfolding read_brackets
brackets_self p = brackets_in_self (length (brackets p)) p (omega arith)

pub brackets_had : (l : List ℕ) (p : Pairs) → read_brackets l ≡ some p → l ≡ brackets p
unfolding read_brackets
brackets_had l p e = brackets_in_had (length l) l p e

-- enough fuel is enough
brackets_in_enough : (k : ℕ) (l : List ℕ) → length l ≤ k → brackets_in k l ≡ read_brackets l
brackets_in_enough k l h = go (brackets_in k l) (read_brackets l) refl refl
  where
    go : (x y : Option Pairs) → brackets_in k l ≡ x → read_brackets l ≡ y → x ≡ y
    go none none e d = refl
    go none (some p) e d =
        let q : l ≡ brackets p = brackets_had l p d in
        sym e ∙ ap (brackets_in k) q ∙ brackets_in_self k p (rw q at h)
    go (some p) y e d = sym (brackets_self p) ∙ ap read_brackets (sym (brackets_in_had k l p e)) ∙ d

module _ {A : Type 0} where
  word_cong : (w l : List ℕ) (j k : List ℕ → Option A) → ((r : List ℕ) → length r ≤ length l → j r ≡ k r) → word w l j ≡ word w l k
  unfolding word
  word_cong w l j k f =
      ap (λ (x : Option A). cond (starts w l) x none) (f (drop (length w) l) (omega (arith, length-drop (length w) l)))

  number_cong : (l : List ℕ) (j k : ℕ → List ℕ → Option A) → ((n : ℕ) (r : List ℕ) → length r ≤ length l → j n r ≡ k n r) → number l j ≡ number l k
  unfolding number
  number_cong l j k f =
      ap (λ (x : Option A). cond (plain l) x none)
      (f (value (take (digit_count l) l)) (drop (digit_count l) l) (omega (arith, length-drop (digit_count l) l)))

-- brackets without fuel: one bracket, and then the end of the line or a blank and the brackets that are left
pub brackets_step : (l : List ℕ) → read_brackets l ≡ word (bytes "(") l (λ l₁. number l₁ (λ m l₂. word (bytes " ") l₂ (λ l₃. number l₃ (λ n l₄.
    word (bytes "))\n") l₄ (whole (last m n)) or_else word (bytes ") ") l₄ (λ l₅. also m n (read_brackets l₅))))))
unfolding read_brackets brackets_in word starts bytes
brackets_step [] = refl
brackets_step (c ∷ l) =
    ap (λ (x : Option Pairs). cond (eqb 40 c && true) x none)
    (number_cong l _ _ (λ m l₂ h₂. word_cong (bytes " ") l₂ _ _ (λ l₃ h₃. number_cong l₃ _ _ (λ n l₄ h₄.
    ap (λ (x : Option Pairs). word (bytes "))\n") l₄ (whole (last m n)) or_else x)
    (word_cong (bytes ") ") l₄ _ _ (λ l₅ h₅. ap (also m n) (brackets_in_enough (length l) l₅ (omega arith))))))))

-- ---- jobs: their brackets read as pairs of numbers, which the laws above speak of

-- the jobs of brackets, and back
abbrev pub as_jobs : Pairs → CallJobs
as_jobs (last n c) = last_job (job_of n c)
as_jobs (next n c p) = next_job (job_of n c) (as_jobs p)

abbrev as_pairs : CallJobs → Pairs
as_pairs (last_job j) = last j.number j.slots
as_pairs (next_job j js) = next j.number j.slots (as_pairs js)

jobs_back : (js : CallJobs) → as_jobs (as_pairs js) ≡ js
jobs_back (last_job j) = refl
jobs_back (next_job j js) = ap (next_job j) (jobs_back js)

pairs_text : (p : Pairs) → job_brackets (as_jobs p) ≡ brackets p
unfolding job_brackets brackets
pairs_text (last n c) = refl
pairs_text (next n c p) = ap (λ (l : List ℕ). bytes "(" then digits n then bytes " " then digits c then bytes ") " then l) (pairs_text p)

jobs_text : (js : CallJobs) → job_brackets js ≡ brackets (as_pairs js)
jobs_text js = ap job_brackets (sym (jobs_back js)) ∙ pairs_text (as_pairs js)

module _ {A B : Type 0} (f : A → B) where
  made_word : (w l : List ℕ) (j : List ℕ → Option A) (k : List ℕ → Option B) → ((r : List ℕ) → made f (j r) ≡ k r) → made f (word w l j) ≡ word w l k
  unfolding word
  made_word w l j k h = go (is (starts w l))
    where
      go : Is (starts w l) → made f (word w l j) ≡ word w l k
      go (is_true e) = rw e (h (drop (length w) l))
      go (is_false e) = rw e refl

  made_number : (l : List ℕ) (j : ℕ → List ℕ → Option A) (k : ℕ → List ℕ → Option B) → ((n : ℕ) (r : List ℕ) → made f (j n r) ≡ k n r)
      → made f (number l j) ≡ number l k
  unfolding number
  made_number l j k h = go (is (plain l))
    where
      go : Is (plain l) → made f (number l j) ≡ number l k
      go (is_true e) = rw e (h (value (take (digit_count l) l)) (drop (digit_count l) l))
      go (is_false e) = rw e refl

  made_or : (x y : Option A) (v w : Option B) → made f x ≡ v → made f y ≡ w → made f (x or_else y) ≡ (v or_else w)
  made_or none y v w e d = rw (← e) d
  made_or (some a) y v w e d = rw (← e) refl

  made_whole : (a : A) (l : List ℕ) → made f (whole a l) ≡ whole (f a) l
  made_whole a [] = refl
  made_whole a (b ∷ l) = refl

pub made_also : (n c : ℕ) (o : Option Pairs) → made as_jobs (also n c o) ≡ also_job (job_of n c) (made as_jobs o)
made_also n c none = refl
made_also n c (some p) = refl

jobs_in_lem : (k : ℕ) (l : List ℕ) → made as_jobs (brackets_in k l) ≡ job_list_in k l
unfolding brackets_in job_list_in
jobs_in_lem zero l = refl
jobs_in_lem (suc k) l =
    made_word as_jobs (bytes "(") l _ _ (λ l₁. made_number as_jobs l₁ _ _ (λ n l₂. made_word as_jobs (bytes " ") l₂ _ _ (λ l₃.
    made_number as_jobs l₃ _ _ (λ c l₄. made_or as_jobs (word (bytes "))\n") l₄ (whole (last n c))) (word (bytes ") ") l₄ (λ l₅. also n c (brackets_in k l₅))) _ _
    (made_word as_jobs (bytes "))\n") l₄ (whole (last n c)) (whole (last_job (job_of n c))) (made_whole as_jobs (last n c)))
    (made_word as_jobs (bytes ") ") l₄ (λ l₅. also n c (brackets_in k l₅)) (λ l₅. also_job (job_of n c) (job_list_in k l₅))
    (λ l₅. made_also n c (brackets_in k l₅) ∙ ap (also_job (job_of n c)) (jobs_in_lem k l₅)))))))

pub read_jobs_lem : (l : List ℕ) → made as_jobs (read_brackets l) ≡ read_jobs l
unfolding read_brackets read_jobs
read_jobs_lem l = jobs_in_lem (length l) l

jobs_self : (js : CallJobs) → read_jobs (job_brackets js) ≡ some js
jobs_self js =
    sym (read_jobs_lem (job_brackets js))
    ∙ ap (made as_jobs) (ap read_brackets (jobs_text js) ∙ brackets_self (as_pairs js))
    ∙ ap (λ (x : CallJobs). some x) (jobs_back js)

jobs_had : (l : List ℕ) (js : CallJobs) → read_jobs l ≡ some js → l ≡ job_brackets js
jobs_had l js e =
    made_had as_jobs (read_brackets l) js (read_jobs_lem l ∙ e) (λ p e₁ e₂. brackets_had l p e₁ ∙ sym (pairs_text p) ∙ ap job_brackets e₂)

-- ---- the two inverses

-- a form printed is recognised
pub form_self : (f : Form) → form (print f) ≡ some f
unfolding form print frame_in busy_in preset_in clock_in call_in tie_in supply_in bytes word starts digit_count
form_self (frame_line s b) =
    or_first _ _ (number_digits s (bytes " " then digits b then bytes ")\n") _ refl ∙ number_digits b (bytes ")\n") _ refl)
form_self (busy_line b p) =
    or_first _ _ (number_digits b (bytes " " then brackets p) _ refl ∙ ap (made (busy_line b)) (brackets_self p))
form_self (preset_line p) =
    or_first _ _
    (number_digits p.number (bytes " " then digits p.priority then bytes " " then digits p.mandatory then bytes " " then digits p.optional then bytes ")\n") _ refl
    ∙ number_digits p.priority (bytes " " then digits p.mandatory then bytes " " then digits p.optional then bytes ")\n") _ refl
    ∙ number_digits p.mandatory (bytes " " then digits p.optional then bytes ")\n") _ refl
    ∙ number_digits p.optional (bytes ")\n") _ refl)
form_self (clock_line t) = or_first _ _ (number_digits t (bytes ")\n") _ refl)
form_self (call_line js) = or_first _ _ (ap (made call_line) (jobs_self js))
form_self (tie_line true) = refl
form_self (tie_line false) = refl
form_self (supply_line k) = or_first _ _ (number_digits k (bytes ")\n") _ refl)

frame_had : (l : List ℕ) (f : Form) → frame_in l ≡ some f → l ≡ print f
unfolding frame_in print bytes
frame_had l f e =
    word_had (bytes "(frame ") l _ f e (λ l₁ e₁ q₁. number_had l₁ _ f q₁ (λ s l₂ e₂ c₂ q₂. word_had (bytes " ") l₂ _ f q₂ (λ l₃ e₃ q₃.
    number_had l₃ _ f q₃ (λ b l₄ e₄ c₄ q₄. word_had (bytes ")\n") l₄ _ f q₄ (λ l₅ e₅ q₅. whole_had (frame_line s b) l₅ f q₅ (λ e₆ e₇.
    rw (e₁, e₂, e₃, e₄, e₅, e₆, ← e₇) refl))))))

busy_had : (l : List ℕ) (f : Form) → busy_in l ≡ some f → l ≡ print f
unfolding busy_in print
busy_had l f e =
    word_had (bytes "(busy ") l _ f e (λ l₁ e₁ q₁. number_had l₁ _ f q₁ (λ b l₂ e₂ c₂ q₂. word_had (bytes " ") l₂ _ f q₂ (λ l₃ e₃ q₃.
    made_had (busy_line b) (read_brackets l₃) f q₃ (λ p e₄ e₅. rw (e₁, e₂, e₃, brackets_had l₃ p e₄, ← e₅) refl))))

preset_had : (l : List ℕ) (f : Form) → preset_in l ≡ some f → l ≡ print f
unfolding preset_in print bytes
preset_had l f e =
    word_had (bytes "(preset ") l _ f e (λ l₁ e₁ q₁. number_had l₁ _ f q₁ (λ n l₂ e₂ c₂ q₂. word_had (bytes " ") l₂ _ f q₂ (λ l₃ e₃ q₃.
    number_had l₃ _ f q₃ (λ p l₄ e₄ c₄ q₄. word_had (bytes " ") l₄ _ f q₄ (λ l₅ e₅ q₅. number_had l₅ _ f q₅ (λ m l₆ e₆ c₆ q₆.
    word_had (bytes " ") l₆ _ f q₆ (λ l₇ e₇ q₇. number_had l₇ _ f q₇ (λ o l₈ e₈ c₈ q₈. word_had (bytes ")\n") l₈ _ f q₈ (λ l₉ e₉ q₉.
    whole_had (preset_line (preset_of n p m o)) l₉ f q₉ (λ e₀ e. rw (e₁, e₂, e₃, e₄, e₅, e₆, e₇, e₈, e₉, e₀, ← e) refl))))))))))

clock_had : (l : List ℕ) (f : Form) → clock_in l ≡ some f → l ≡ print f
unfolding clock_in print bytes
clock_had l f e =
    word_had (bytes "(clock ") l _ f e (λ l₁ e₁ q₁. number_had l₁ _ f q₁ (λ t l₂ e₂ c₂ q₂. word_had (bytes ")\n") l₂ _ f q₂ (λ l₃ e₃ q₃.
    whole_had (clock_line t) l₃ f q₃ (λ e₄ e₅. rw (e₁, e₂, e₃, e₄, ← e₅) refl))))

call_had : (l : List ℕ) (f : Form) → call_in l ≡ some f → l ≡ print f
unfolding call_in print
call_had l f e =
    word_had (bytes "(call ") l _ f e (λ l₁ e₁ q₁. made_had call_line (read_jobs l₁) f q₁ (λ js e₂ e₃. rw (e₁, jobs_had l₁ js e₂, ← e₃) refl))

tie_had : (l : List ℕ) (f : Form) → tie_in l ≡ some f → l ≡ print f
unfolding tie_in print bytes
tie_had l f e =
    or_had (word (bytes "(tie hold)\n") l (whole (tie_line true))) _ f e
    (λ q. word_had (bytes "(tie hold)\n") l _ f q (λ l₁ e₁ q₁. whole_had (tie_line true) l₁ f q₁ (λ e₂ e₃. rw (e₁, e₂, ← e₃) refl)))
    (λ q. word_had (bytes "(tie place)\n") l _ f q (λ l₁ e₁ q₁. whole_had (tie_line false) l₁ f q₁ (λ e₂ e₃. rw (e₁, e₂, ← e₃) refl)))

supply_had : (l : List ℕ) (f : Form) → supply_in l ≡ some f → l ≡ print f
unfolding supply_in print bytes
supply_had l f e =
    word_had (bytes "(supply ") l _ f e (λ l₁ e₁ q₁. number_had l₁ _ f q₁ (λ k l₂ e₂ c₂ q₂. word_had (bytes ")\n") l₂ _ f q₂ (λ l₃ e₃ q₃.
    whole_had (supply_line k) l₃ f q₃ (λ e₄ e₅. rw (e₁, e₂, e₃, e₄, ← e₅) refl))))

-- a line that has a form is that form printed
pub form_had : (l : List ℕ) (f : Form) → form l ≡ some f → l ≡ print f
unfolding form
form_had l f e =
    or_had (frame_in l) _ f e (frame_had l f) (λ e₁. or_had (busy_in l) _ f e₁ (busy_had l f) (λ e₂. or_had (preset_in l) _ f e₂ (preset_had l f)
    (λ e₃. or_had (supply_in l) _ f e₃ (supply_had l f) (λ e₄. or_had (clock_in l) _ f e₄ (clock_had l f)
    (λ e₅. or_had (call_in l) (tie_in l) f e₅ (call_had l f) (tie_had l f))))))

-- one text for one form
pub print_injective : (f g : Form) → print f ≡ print g → f ≡ g
print_injective f g e =
    let q : some f ≡ some g = sym (form_self f) ∙ ap form e ∙ form_self g in
    cc

-- ---- a printed form is one line

digit_rest : (b : ℕ) → is_digit b ≡ true → eqb b 10 ≡ false
digit_rest b d = let low = digit_low b d in eqb_no b 10 (λ q. omega arith)

-- digits before a line: a line
count_line : (l r : List ℕ) → digit_count l ≡ length l → is_line r ≡ true → is_line (l ++ r) ≡ true
unfolding digit_count
count_line [] r e h = h
count_line (b ∷ l) r e h = let t = all_digits b l e in is_line_cons b (l ++ r) (digit_rest b t.0) (count_line l r t.1 h)

digits_line : (n : ℕ) (r : List ℕ) → is_line r ≡ true → is_line (digits n ++ r) ≡ true
digits_line n r h = count_line (digits n) r (digits_count n) h

line_end : is_line (bytes ")\n") ≡ true
unfolding is_line bytes
line_end = refl

brackets_end : is_line (bytes "))\n") ≡ true
unfolding is_line bytes
brackets_end = refl

brackets_line : (p : Pairs) → is_line (brackets p) ≡ true
unfolding brackets bytes is_rest
brackets_line (last m n) =
    rest_line (bytes "(") _ refl (digits_line m _ (rest_line (bytes " ") _ refl (digits_line n _ brackets_end)))
brackets_line (next m n p) =
    rest_line (bytes "(") _ refl (digits_line m _ (rest_line (bytes " ") _ refl (digits_line n _ (rest_line (bytes ") ") _ refl (brackets_line p)))))

-- byte 10 stands at the end of a printed form and nowhere else
pub print_line : (f : Form) → is_line (print f) ≡ true
unfolding print bytes is_rest
print_line (frame_line s b) =
    rest_line (bytes "(frame ") _ refl (digits_line s _ (rest_line (bytes " ") _ refl (digits_line b _ line_end)))
print_line (busy_line b p) = rest_line (bytes "(busy ") _ refl (digits_line b _ (rest_line (bytes " ") _ refl (brackets_line p)))
print_line (preset_line p) =
    rest_line (bytes "(preset ") _ refl (digits_line p.number _ (rest_line (bytes " ") _ refl (digits_line p.priority _ (rest_line (bytes " ") _ refl
    (digits_line p.mandatory _ (rest_line (bytes " ") _ refl (digits_line p.optional _ line_end)))))))
print_line (clock_line t) = rest_line (bytes "(clock ") _ refl (digits_line t _ line_end)
print_line (call_line js) = rest_line (bytes "(call ") _ refl (rw (jobs_text js) (brackets_line (as_pairs js)))
print_line (tie_line true) = rest_line (bytes "(tie hold") _ refl line_end
print_line (tie_line false) = rest_line (bytes "(tie place") _ refl line_end
print_line (supply_line k) = rest_line (bytes "(supply ") _ refl (digits_line k _ line_end)

prints_shape : (fs : List Form) → Lines (map print fs)
prints_shape [] = no_lines
prints_shape (f ∷ fs) = line_then (print_line f) (prints_shape fs)

-- the lines of forms printed one after the other
pub lines_prints : (fs : List Form) → lines (join (map print fs)) ≡ map print fs
lines_prints fs = lines_of_join (prints_shape fs)
