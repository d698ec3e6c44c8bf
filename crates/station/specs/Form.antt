-- The seven forms of a line: what each says, the one text that it has, and the recogniser. Document
-- 01, "The station text"; document 02, 2026-02 and 2026-03. Assumes nothing.
use Rattle.std.specs.Prelude.{ℕ, zero, suc, Bool, true, false, cond, ◌&&◌, List, [], ◌∷◌, length, take, drop, eqb}
use Rattle.std.proofs.Math.Option.{Option, none, some}
use Rattle.station.specs.Head.{Job, Preset, preset_of, job_of}
use Rattle.station.specs.Text.{bytes, ◌then◌}
use Rattle.station.specs.Decimal.{digits, digit_count, plain, value}

-- the stretches of a busy line, each of two slots: "At least one stretch"
pub data Pairs : Type 0 where
  last : ℕ → ℕ → Pairs
  next : ℕ → ℕ → Pairs → Pairs

-- the jobs of a call: at least one, since "A call or busy line without any bracket in it lacks its
-- form"
pub data CallJobs : Type 0 where
  last_job : Job → CallJobs
  next_job : Job → CallJobs → CallJobs

-- The seven forms, with their numbers as they stand: whether a value is within its limits is not
-- the form's matter.
pub data Form : Type 0 where
  frame_line : ℕ → ℕ → Form  -- `(frame S B)`
  busy_line : ℕ → Pairs → Form  -- `(busy b (f t) (f t))`
  preset_line : Preset → Form  -- `(preset n p m o)`
  clock_line : ℕ → Form  -- `(clock t)`
  call_line : CallJobs → Form  -- `(call (n c) (n c))`
  tie_line : Bool → Form  -- `(tie hold)` where true, `(tie place)` where false
  supply_line : ℕ → Form  -- `(supply k)`

-- "Events follow: `(clock t)` and `(call (n c) (n c))`"; a tie line has "an event's form" too,
-- where it does not stand directly after the frame line or directly after the supply line
abbrev pub is_event : Form → Bool
is_event (frame_line s b) = false
is_event (busy_line b p) = false
is_event (preset_line p) = false
is_event (clock_line t) = true
is_event (call_line js) = true
is_event (tie_line hold) = true
is_event (supply_line k) = false

-- a tie line
abbrev pub is_tie : Form → Bool
is_tie (frame_line s b) = false
is_tie (busy_line b p) = false
is_tie (preset_line p) = false
is_tie (clock_line t) = false
is_tie (call_line js) = false
is_tie (tie_line hold) = true
is_tie (supply_line k) = false

-- "A call is a list of jobs, each with a number and a length c."
unfoldable pub jobs_of : CallJobs → List Job
jobs_of (last_job j) = j ∷ []
jobs_of (next_job j js) = j ∷ jobs_of js

-- ---- the text of a form: "Nested brackets, one form a line, each line ended by byte 10. One blank parts two items."

-- the stretches of a busy line, and its end
unfoldable pub brackets : Pairs → List ℕ
brackets (last m n) = bytes "(" then digits m then bytes " " then digits n then bytes "))\n"
brackets (next m n p) = bytes "(" then digits m then bytes " " then digits n then bytes ") " then brackets p

-- the jobs of a call, and its end
unfoldable pub job_brackets : CallJobs → List ℕ
job_brackets (last_job j) = bytes "(" then digits j.number then bytes " " then digits j.slots then bytes "))\n"
job_brackets (next_job j js) = bytes "(" then digits j.number then bytes " " then digits j.slots then bytes ") " then job_brackets js

-- the one text of a form, byte 10 included
unfoldable pub print : Form → List ℕ
print (frame_line s b) = bytes "(frame " then digits s then bytes " " then digits b then bytes ")\n"
print (busy_line b p) = bytes "(busy " then digits b then bytes " " then brackets p
print (preset_line p) =
    bytes "(preset " then digits p.number then bytes " " then digits p.priority then bytes " " then digits p.mandatory then bytes " "
    then digits p.optional then bytes ")\n"
print (clock_line t) = bytes "(clock " then digits t then bytes ")\n"
print (call_line js) = bytes "(call " then job_brackets js
print (tie_line true) = bytes "(tie hold)\n"
print (tie_line false) = bytes "(tie place)\n"
print (supply_line k) = bytes "(supply " then digits k then bytes ")\n"

-- ---- the recogniser: each reader hands on what is left

-- l begins with w
unfoldable pub starts : List ℕ → List ℕ → Bool
starts [] l = true
starts (c ∷ w) [] = false
starts (c ∷ w) (b ∷ l) = eqb c b && starts w l

module _ {A : Type 0} where
  -- the word w, then what k makes of the rest
  unfoldable pub word : List ℕ → List ℕ → (List ℕ → Option A) → Option A
  word w l k =
      let rest = k (drop (length w) l) in
      cond (starts w l) rest none

  -- a number, then what k makes of it and the rest
  unfoldable pub number : List ℕ → (ℕ → List ℕ → Option A) → Option A
  number l k =
      let rest = k (value (take (digit_count l) l)) (drop (digit_count l) l) in
      cond (plain l) rest none

  -- a where nothing is left
  abbrev pub whole : A → List ℕ → Option A
  whole a [] = some a
  whole a (b ∷ l) = none

  -- the first of two that is there
  infixr 30 ◌or_else◌
  abbrev pub ◌or_else◌ : Option A → Option A → Option A
  none or_else y = y
  some x or_else y = some x

-- one more bracket before the others
abbrev pub also : ℕ → ℕ → Option Pairs → Option Pairs
also m n none = none
also m n (some p) = some (next m n p)

-- k brackets at most, and the end of the line
unfoldable pub brackets_in : ℕ → List ℕ → Option Pairs
brackets_in zero l = none
brackets_in (suc k) l =
    word (bytes "(") l (λ l₁. number l₁ (λ m l₂. word (bytes " ") l₂ (λ l₃. number l₃ (λ n l₄.
    word (bytes "))\n") l₄ (whole (last m n)) or_else word (bytes ") ") l₄ (λ l₅. also m n (brackets_in k l₅))))))

-- a bracket has more than one byte: a text has fewer brackets than bytes
unfoldable pub read_brackets : List ℕ → Option Pairs
read_brackets l = brackets_in (length l) l

-- one more job before the others
abbrev pub also_job : Job → Option CallJobs → Option CallJobs
also_job j none = none
also_job j (some js) = some (next_job j js)

-- k jobs at most, and the end of the line
unfoldable pub job_list_in : ℕ → List ℕ → Option CallJobs
job_list_in zero l = none
job_list_in (suc k) l =
    word (bytes "(") l (λ l₁. number l₁ (λ n l₂. word (bytes " ") l₂ (λ l₃. number l₃ (λ c l₄.
    word (bytes "))\n") l₄ (whole (last_job (job_of n c))) or_else word (bytes ") ") l₄ (λ l₅. also_job (job_of n c) (job_list_in k l₅))))))

-- as for stretches
unfoldable pub read_jobs : List ℕ → Option CallJobs
read_jobs l = job_list_in (length l) l

-- what f makes of what was read, if it was
abbrev pub made : {A B : Type 0} → (A → B) → Option A → Option B
made f none = none
made f (some a) = some (f a)

-- `(frame S B)`
unfoldable pub frame_in : List ℕ → Option Form
frame_in l =
    word (bytes "(frame ") l (λ l₁. number l₁ (λ s l₂. word (bytes " ") l₂ (λ l₃. number l₃ (λ b l₄. word (bytes ")\n") l₄ (whole (frame_line s b))))))

-- `(busy b (f t) (f t))`
unfoldable pub busy_in : List ℕ → Option Form
busy_in l = word (bytes "(busy ") l (λ l₁. number l₁ (λ b l₂. word (bytes " ") l₂ (λ l₃. made (busy_line b) (read_brackets l₃))))

-- `(preset n p m o)`
unfoldable pub preset_in : List ℕ → Option Form
preset_in l =
    word (bytes "(preset ") l (λ l₁. number l₁ (λ n l₂. word (bytes " ") l₂ (λ l₃. number l₃ (λ p l₄. word (bytes " ") l₄ (λ l₅. number l₅ (λ m l₆.
    word (bytes " ") l₆ (λ l₇. number l₇ (λ o l₈. word (bytes ")\n") l₈ (whole (preset_line (preset_of n p m o)))))))))))

-- `(clock t)`
unfoldable pub clock_in : List ℕ → Option Form
clock_in l = word (bytes "(clock ") l (λ l₁. number l₁ (λ t l₂. word (bytes ")\n") l₂ (whole (clock_line t))))

-- `(call (n c) (n c))`; "A call or busy line without any bracket in it lacks its form."
unfoldable pub call_in : List ℕ → Option Form
call_in l = word (bytes "(call ") l (λ l₁. made call_line (read_jobs l₁))

-- `(tie hold)`, `(tie place)`
unfoldable pub tie_in : List ℕ → Option Form
tie_in l = word (bytes "(tie hold)\n") l (whole (tie_line true)) or_else word (bytes "(tie place)\n") l (whole (tie_line false))

-- `(supply k)`
unfoldable pub supply_in : List ℕ → Option Form
supply_in l = word (bytes "(supply ") l (λ l₁. number l₁ (λ k l₂. word (bytes ")\n") l₂ (whole (supply_line k))))

-- The form of a line, byte 10 included; none is "a line that is not one of the five forms, or lacks
-- its end", which are six since 2026-02 and seven since 2026-03.
unfoldable pub form : List ℕ → Option Form
form l = frame_in l or_else busy_in l or_else preset_in l or_else supply_in l or_else clock_in l or_else call_in l or_else tie_in l
