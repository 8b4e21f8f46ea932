-- The table of the starred cases: worked examples whose truth is proved of the definitions. Assumes nothing.
use Rattle.std.specs.Prelude.{◌≡◌, true, List, [], ◌∷◌, ℕ, ◌-◌, ℤ, pos, negsuc, length, get_or}
use Rattle.std.proofs.Math.Option.{Option, none, some}
use Rattle.field.specs.Field.{times}
use Rattle.code.specs.Settings.{settings}
use Rattle.code.specs.Polynomial.{generator}
use Rattle.code.specs.Vector.{has_checks}
use Rattle.code.specs.Repair.{Repaired, changed_places, NoRepair, Tried, TriedPlanes}
use Rattle.grading.specs.Held.{Held, held_as}
use Rattle.record.specs.Record.{Rec, who_as, found_as, no_frames, none_refused, opened}
use Rattle.record.specs.Refusal.{open_refusal, ask_refusal}
use Rattle.rounds.specs.Exchange.{Closed}
use Rattle.column.specs.Call.{Call, Run}
use Rattle.gradecast.specs.Promise.{none_held}
use Rattle.level.specs.Level.{confident, level_of, level_refusal}

-- values of one byte
unfoldable pub single : List ℕ → List (List ℕ)
single [] = []
single (b ∷ bs) = (b ∷ []) ∷ single bs

-- four bytes held at confidence 2, and a blank at confidence 0
unfoldable pub held_bytes : (a b c d : ℕ) → Held
held_bytes a b c d = held_as (a ∷ b ∷ c ∷ d ∷ []) 2

unfoldable pub held_blank : Held
held_blank = held_as (0 ∷ 0 ∷ 0 ∷ 0 ∷ []) 0

-- a kind of case for each thing that is worked out
pub data Case : Type 0 where
  product : (a b result : ℕ) → Case
  generator_is : (roots : ℕ) → (coefficients : List ℕ) → Case
  checks_are : (n t : ℕ) → (vector checks : List ℕ) → Case
  repaired_is : (n t : ℕ) → (vector checks repaired : List ℕ) → (changed tried : ℕ) → Case
  none_near : (n t : ℕ) → (vector checks : List ℕ) → (tried : ℕ) → Case
  planes_tried : (n t w : ℕ) → (vector checks : List (List ℕ)) → (tried : List ℕ) → Case
  told_in_two : (n t number : ℕ) → (vector : List ℕ) → (frames : List (Option (List ℕ))) → (told : List ℕ) → Case
  opening : (n t number : ℕ) → (own : List ℕ) → (answer : ℕ) → Case
  alone_ends : (own : List ℕ) → (confidence : ℕ) → Case
  level_is : (n t : ℕ) → (held : List Held) → (heights : List ℤ) → (level : ℤ) → Case

-- a column alone, opened with a value, whose calls lead to the end
unfoldable pub Alone : (run : ℕ) → (own : List ℕ) → (calls : List Call) → (last : Rec) → Type 0
Alone run v calls last = Run (opened (settings 1 0 (length v)) 1 run v) calls last × (last.round ≡ 4)

-- that there are such calls
unfoldable pub Finishes : (run : ℕ) → (own : List ℕ) → Type 0
Finishes run v = (calls : List Call) × (last : Rec) × Alone run v calls last

-- a column in round two, with V and the operands of the frames of that round
unfoldable pub in_round_two : (n t number : ℕ) → (vector : List ℕ) → (frames : List (Option (List ℕ))) → Rec
in_round_two n t k vs fs =
    record {
      who = who_as (settings n t 1) k 0 (get_or (single vs) (k - 1) []);
      frames = fs;
      early = no_frames (settings n t 1);
      found = found_as (single vs) [] [] [] [];
      round = 2;
      refused = none_refused (settings n t 1);
    }

-- what a case says
unfoldable pub Holds : Case → Type 0
Holds (product a b c) = times a b ≡ c
Holds (generator_is m g) = generator m ≡ g
Holds (checks_are n t vs cs) = has_checks (settings n t 1) (single vs) (single cs) ≡ true
Holds (repaired_is n t vs cs us m k) =
    ((ds : List (List ℕ)) × Repaired (settings n t 1) (single vs) (single cs) (single us) ds × (changed_places (single vs) (single cs) (single us) ds ≡ m))
    × Tried (settings n t 1) vs cs k
Holds (none_near n t vs cs k) = NoRepair (settings n t 1) (single vs) (single cs) × Tried (settings n t 1) vs cs k
Holds (planes_tried n t w vs cs ks) = NoRepair (settings n t w) vs cs × TriedPlanes (settings n t w) vs cs ks
Holds (told_in_two n t k vs fs ms) =
    ((q : Rec) × Closed 2 (in_round_two n t k vs fs) q) × ((q : Rec) → Closed 2 (in_round_two n t k vs fs) q → q.found.told_two ≡ ms)
Holds (opening n t k v a) = open_refusal (settings n t (length v)) k v ≡ a
Holds (alone_ends v c) = (run : ℕ) → Finishes run v × ((calls : List Call) (last : Rec) → Alone run v calls last → get_or last.found.held 0 none_held ≡ held_as v c)
Holds (level_is n t held hs l) =
    (confident held ≡ hs) × (level_of (settings n t 4) held ≡ l)
    × ((r : Rec) → r.who.settings ≡ settings n t 4 → r.found.held ≡ held → ask_refusal r ≡ 0 → level_refusal r ≡ 0)

unfoldable pub starred : List Case
starred =
    product 2 128 135
    ∷ generator_is 2 (102 ∷ 164 ∷ 1 ∷ [])
    ∷ checks_are 4 1 (241 ∷ 86 ∷ 35 ∷ 35 ∷ []) (39 ∷ 78 ∷ [])
    ∷ checks_are 4 1 (241 ∷ 86 ∷ 35 ∷ 40 ∷ []) (82 ∷ 30 ∷ [])
    ∷ checks_are 4 1 (241 ∷ 86 ∷ 35 ∷ 0 ∷ []) (8 ∷ 182 ∷ [])
    ∷ repaired_is 4 1 (241 ∷ 86 ∷ 35 ∷ 35 ∷ []) (0 ∷ 136 ∷ []) (241 ∷ 86 ∷ 129 ∷ 35 ∷ []) 1 3
    ∷ repaired_is 4 1 (241 ∷ 86 ∷ 35 ∷ 35 ∷ []) (22 ∷ 61 ∷ []) (241 ∷ 49 ∷ 35 ∷ 35 ∷ []) 1 2
    ∷ none_near 4 1 (241 ∷ 86 ∷ 35 ∷ 35 ∷ []) (22 ∷ 77 ∷ []) 6
    -- nothing wrong, and the last check wrong
    ∷ repaired_is 4 1 (241 ∷ 86 ∷ 35 ∷ 35 ∷ []) (39 ∷ 78 ∷ []) (241 ∷ 86 ∷ 35 ∷ 35 ∷ []) 0 0
    ∷ repaired_is 4 1 (241 ∷ 86 ∷ 35 ∷ 35 ∷ []) (39 ∷ 79 ∷ []) (241 ∷ 86 ∷ 35 ∷ 35 ∷ []) 1 6
    -- two wrong: columns 2 and 5, and column 2 and check 3
    ∷ repaired_is 7 2 (1 ∷ 20 ∷ 3 ∷ 4 ∷ 50 ∷ 6 ∷ 7 ∷ []) (16 ∷ 65 ∷ 58 ∷ 215 ∷ []) (1 ∷ 2 ∷ 3 ∷ 4 ∷ 5 ∷ 6 ∷ 7 ∷ []) 2 5
    ∷ repaired_is 7 2 (1 ∷ 20 ∷ 3 ∷ 4 ∷ 5 ∷ 6 ∷ 7 ∷ []) (16 ∷ 65 ∷ 0 ∷ 215 ∷ []) (1 ∷ 2 ∷ 3 ∷ 4 ∷ 5 ∷ 6 ∷ 7 ∷ []) 2 10
    -- two planes: nothing near the first, and column 3 of the second wrong
    ∷ planes_tried 4 1 2 ((241 ∷ 241 ∷ []) ∷ (86 ∷ 86 ∷ []) ∷ (35 ∷ 35 ∷ []) ∷ (35 ∷ 35 ∷ []) ∷ []) ((22 ∷ 0 ∷ []) ∷ (77 ∷ 136 ∷ []) ∷ [])
    (6 ∷ 3 ∷ 0 ∷ 0 ∷ 0 ∷ 0 ∷ 0 ∷ 0 ∷ [])
    -- column 1 of the exchange of 004, with what columns 2, 3 and 4 send to it
    ∷ told_in_two 4 1 1 (241 ∷ 86 ∷ 35 ∷ 35 ∷ []) (none ∷ some (39 ∷ 78 ∷ []) ∷ some (82 ∷ 30 ∷ []) ∷ some (22 ∷ 61 ∷ []) ∷ []) (0 ∷ 0 ∷ 1 ∷ 1 ∷ [])
    ∷ opening 4 1 1 (7 ∷ []) 0
    ∷ opening 3 1 1 (7 ∷ []) 2
    ∷ alone_ends (7 ∷ []) 2
    ∷ level_is 4 1 (held_bytes 0 0 3 232 ∷ held_bytes 0 0 3 236 ∷ held_bytes 0 0 3 242 ∷ held_blank ∷ []) (pos 1000 ∷ pos 1004 ∷ pos 1010 ∷ []) (pos 1005)
    ∷ level_is 2 0 (held_bytes 255 255 255 251 ∷ held_bytes 255 255 255 254 ∷ []) (negsuc 4 ∷ negsuc 1 ∷ []) (negsuc 3)
    ∷ []

unfoldable pub AllHold : List Case → Type 0
AllHold [] = Unit {0}
AllHold (c ∷ cs) = Holds c × AllHold cs

-- the one statement that covers the table
unfoldable pub StarredCases : Type 0
StarredCases = AllHold starred
