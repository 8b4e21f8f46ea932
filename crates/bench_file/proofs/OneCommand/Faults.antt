-- What it says that a command is not turned down: it is one of the four, all its bytes are there, and its columns and round are those that
-- there are. Each line is a test, and a chain of lines ends at 0 only if every line does. Assumes nothing.
use mathlib.Core.Path.{◌≡◌, refl, sym, ◌∙◌, ap}
use mathlib.Core.Bool.{Bool, true, false, cond, ◌&&◌, ◌||◌, not}
use mathlib.Core.List.{List, [], ◌∷◌}
use mathlib.Core.Logic.{◌⊎◌, inl, inr}
use Prim.Native.Nat.{ℕ, ◌+◌, ◌≤◌}
use native.Mathlib.Omega.{arith}
use lib.Dec.{eqb, leb, ltb}
use lib.ListN.{length, get_or, take, drop}
use lib.Seq.{get_or-drop, drop-drop}
use borrow.Author.Tests.{eqb-true, leb-true, ltb-false, not-false, eq-eqb, ne_eqb}
use Rattle.code.specs.Settings.{Settings, settings, value_size, check_count}
use Rattle.code.specs.Size.{most_columns, value_room}
use Rattle.code.specs.declared.settings.Settings.{Settings as Allowed}
use Rattle.code.proofs.ValidSettings.{bounds}
use Rattle.arrays.proofs.Bool.{and_split, true_not_false}
use Rattle.record.specs.Frame.{operand_size}
use Rattle.record.specs.Refusal.{first_of, blank_refusal}
use Rattle.record.proofs.Refusal.{first_of_next, first_of_last}
use Rattle.bench_file.specs.Scenario.{Scenario}
use Rattle.bench_file.specs.Command.{command_in, is_known, head_size, body_size, command_size, body_in, no_message, form_fault, form_refusal, round_in, from_in, to_in, is_column, column_refusal, message_refusal, checks_round_refusal, operand_refusal, value_refusal}
use Rattle.bench_file.specs.Steps.Places.{group_of}
use Rattle.bench_file.specs.Steps.CommandAt.{code_of, Says, value_fault}
use Rattle.bench_file.specs.declared.commands.Command.{Command}
use Rattle.bench_file.specs.declared.commands.Command.TheVariants.{Own, Value, Checks, End}

pub byte_in : (file : List ℕ) (at i : ℕ) → get_or (drop at file) i 0 ≡ get_or file (at + i) 0
byte_in file at i = get_or-drop at file i 0

pub command_at : (file : List ℕ) (at : ℕ) → command_in (drop at file) ≡ get_or file at 0
unfolding command_in
command_at file at = byte_in file at 0 ∙ (let e : at + 0 ≡ at = omega arith in ap (λ (i : ℕ). get_or file i 0) e)

-- one line of a chain
pub line_passed : (q : Bool) (m rest : ℕ) → 1 ≤ m → cond q m rest ≡ 0 → (q ≡ false) × (rest ≡ 0)
line_passed false m rest h e = (refl, e)
line_passed true m rest h e = absurd (omega arith)

-- 19
pub form_fits : (f : Scenario) (bs : List ℕ) → form_refusal f bs ≡ 0 → (is_known (command_in bs) ≡ true) × (command_size f.settings (command_in bs) ≤ length bs)
unfolding form_refusal form_fault
form_fits f bs e =
    let known = line_passed (not (is_known (command_in bs))) 19 _ (omega arith) e in
    let order = line_passed (eqb (command_in bs) 4 && not (no_message f.messages)) 19 _ (omega arith) known.1 in
    let size = line_passed (ltb (length bs) (command_size f.settings (command_in bs))) 19 _ (omega arith) order.1 in
    (not-false _ known.0, ltb-false _ _ size.0)

-- the four commands
pub known_cases : (c : ℕ) → is_known c ≡ true → (c ≡ 4) ⊎ ((c ≡ 2) ⊎ ((c ≡ 3) ⊎ (c ≡ 15)))
unfolding is_known
known_cases c e = go (eqb c 4) (eqb c 2) (eqb c 3) (eqb c 15) refl refl refl refl e
  where
    go :
        (p q r s : Bool) → eqb c 4 ≡ p → eqb c 2 ≡ q → eqb c 3 ≡ r → eqb c 15 ≡ s → ((p || q) || (r || s)) ≡ true →
        (c ≡ 4) ⊎ ((c ≡ 2) ⊎ ((c ≡ 3) ⊎ (c ≡ 15)))
    go true q r s a b d g h = inl (eqb-true c 4 a)
    go false true r s a b d g h = inr (inl (eqb-true c 2 b))
    go false false true s a b d g h = inr (inr (inl (eqb-true c 3 d)))
    go false false false true a b d g h = inr (inr (inr (eqb-true c 15 g)))
    go false false false false a b d g h = true_not_false (sym h)

-- 20
pub column_inside : (n k : ℕ) → is_column n k ≡ true → (1 ≤ k) × (k ≤ n)
unfolding is_column
column_inside n k e = let tests = and_split (leb 1 k) (leb k n) e in (leb-true _ _ tests.0, leb-true _ _ tests.1)

pub own_inside : (f : Scenario) (k : ℕ) → column_refusal f k ≡ 0 → (1 ≤ k) × (k ≤ f.settings.n)
unfolding column_refusal
own_inside f k e = column_inside f.settings.n k (not-false _ (line_passed (not (is_column f.settings.n k)) 20 _ (omega arith) e).0)

pub record MessageInside (f : Scenario) (k l : ℕ) : Type 0 where
  pub from_low : 1 ≤ k
  pub from_high : k ≤ f.settings.n
  pub to_low : 1 ≤ l
  pub to_high : l ≤ f.settings.n

pub message_inside : (f : Scenario) (m k l : ℕ) → message_refusal f m k l ≡ 0 → MessageInside f k l
unfolding message_refusal
message_inside f m k l e =
    let from = line_passed (not (is_column f.settings.n k)) 20 _ (omega arith) e in
    let to = line_passed (not (is_column f.settings.n l)) 20 _ (omega arith) from.1 in
    let sender = column_inside f.settings.n k (not-false _ from.0) in
    let reader = column_inside f.settings.n l (not-false _ to.0) in
    record { from_low = sender.0; from_high = sender.1; to_low = reader.0; to_high = reader.1 }

pub round_inside : (m : ℕ) → checks_round_refusal 3 m ≡ 0 → (2 ≤ m) × (m ≤ 3)
unfolding checks_round_refusal
round_inside m e = go (eqb m 2) (eqb m 3) refl refl e
  where
    go : (p q : Bool) → eqb m 2 ≡ p → eqb m 3 ≡ q → ◌≡◌ {A = ℕ} (cond (p || q) 0 20) 0 → (2 ≤ m) × (m ≤ 3)
    go true q a b h = omega (arith, eqb-true m 2 a)
    go false true a b h = omega (arith, eqb-true m 3 b)
    go false false a b h = absurd (omega arith)

-- 19, over plain numbers
not_not : (q : Bool) → not (not q) ≡ q
not_not true = refl
not_not false = refl

pub form_as :
    (f : Scenario) (s : Settings) (late : Bool) (bs : List ℕ) {c left : ℕ} → f.settings ≡ s → no_message f.messages ≡ not late →
    command_in bs ≡ c → length bs ≡ left → form_refusal f bs ≡ form_fault s late c left
unfolding form_refusal
form_as f s late bs {c} {left} e g h l = rw (h, l, e, g, not_not late) refl

pub form_unknown : (f : Scenario) (bs : List ℕ) → is_known (command_in bs) ≡ false → form_refusal f bs ≡ 19
unfolding form_refusal form_fault
form_unknown f bs e = rw e refl

-- a test on a column, by the settings that there are
pub column_as : (f : Scenario) (s : Settings) (k : ℕ) {q : Bool} → f.settings ≡ s → is_column s.n k ≡ q → is_column f.settings.n k ≡ q
column_as f s k e h = rw e h

-- 20, by the command
pub operand_end : (f : Scenario) (bs : List ℕ) → command_in bs ≡ 15 → operand_refusal f bs ≡ 0
unfolding operand_refusal
operand_end f bs e = rw e refl

pub operand_own : (f : Scenario) (bs : List ℕ) → command_in bs ≡ 4 → operand_refusal f bs ≡ column_refusal f (get_or bs 1 0)
unfolding operand_refusal
operand_own f bs e = rw e refl

pub operand_message :
    (f : Scenario) (bs : List ℕ) {c m k l : ℕ} → (c ≡ 15 → ⊥) → (c ≡ 4 → ⊥) → command_in bs ≡ c → round_in bs ≡ m → from_in bs ≡ k → to_in bs ≡ l →
    operand_refusal f bs ≡ first_of (checks_round_refusal c m ∷ message_refusal f m k l ∷ [])
unfolding operand_refusal
operand_message f bs {c} {m} {k} {l} no_end no_own e round from to = rw (e, ne_eqb c 15 no_end, ne_eqb c 4 no_own, round, from, to) refl

-- the round of a message
pub heading_round :
    (bs : List ℕ) (m : ℕ) {c : ℕ} → command_in bs ≡ c → is_known (command_in bs) ≡ true → (c ≡ 15 → ⊥) → (c ≡ 4 → ⊥) →
    m ≡ round_in bs → checks_round_refusal c m ≡ 0 → (1 ≤ m) × (m ≤ 3)
unfolding round_in
heading_round bs m {c} e known no_end no_own round right = go (known_cases _ known)
  where
    go : (command_in bs ≡ 4) ⊎ ((command_in bs ≡ 2) ⊎ ((command_in bs ≡ 3) ⊎ (command_in bs ≡ 15))) → (1 ≤ m) × (m ≤ 3)
    go (inl four) = absurd (no_own (sym e ∙ four))
    go (inr (inl two)) =
        let one : m ≡ 1 = round ∙ simp (eq-eqb (command_in bs) 2 two) in
        omega arith
    go (inr (inr (inl three))) =
        let inside = round_inside m (sym (ap (λ (x : ℕ). checks_round_refusal x m) (sym e ∙ three)) ∙ right) in
        omega (arith, inside.0, inside.1)
    go (inr (inr (inr end))) = absurd (no_end (sym e ∙ end))

-- 6: the value of an own command
pub body_own : (s : Settings) (file : List ℕ) (at w : ℕ) → s.w ≡ w → command_in (drop at file) ≡ 4 → body_in s (drop at file) ≡ take w (drop (at + 2) file)
unfolding body_in body_size head_size operand_size value_size
body_own s file at w h e = rw (e, h) (ap (take w) (drop-drop 2 at file))

pub value_as :
    (f : Scenario) (file : List ℕ) (at w : ℕ) {c : ℕ} → f.settings.w ≡ w → command_in (drop at file) ≡ c →
    value_refusal f (drop at file) ≡ value_fault file at c w
unfolding value_refusal value_fault
value_as f file at w {c} h e = rw e (go (eqb c 4) refl)
  where
    go : (q : Bool) → eqb c 4 ≡ q → cond q (blank_refusal (body_in f.settings (drop at file))) 0 ≡ cond q (blank_refusal (take w (drop (at + 2) file))) 0
    go true g = ap blank_refusal (body_own f.settings file at w h (e ∙ eqb-true c 4 g))
    go false g = refl

-- the length of an own command
pub own_size : (s : Settings) → command_size s 4 ≡ 2 + s.w
unfolding command_size head_size body_size operand_size value_size
own_size s = refl

-- 20, by what the command says
pub operand_says_own : (f : Scenario) (bs : List ℕ) (k : ℕ) → Says bs (Own k) → operand_refusal f bs ≡ column_refusal f k
operand_says_own f bs k h = operand_own f bs h.0 ∙ ap (column_refusal f) h.1

pub heading_value : (bs : List ℕ) (k l : ℕ) → Says bs (Value k l) → (round_in bs ≡ 1) × (from_in bs ≡ k) × (to_in bs ≡ l)
unfolding round_in from_in to_in
heading_value bs k l h = rw h.0 (refl, h.1, h.2)

pub heading_checks : (bs : List ℕ) (m k l : ℕ) → Says bs (Checks m k l) → (round_in bs ≡ m) × (from_in bs ≡ k) × (to_in bs ≡ l)
unfolding round_in from_in to_in
heading_checks bs m k l h = rw h.0 (h.1, h.2, h.3)

pub operand_says_value : (f : Scenario) (bs : List ℕ) (k l : ℕ) → Says bs (Value k l) → operand_refusal f bs ≡ message_refusal f 1 k l
unfolding checks_round_refusal
operand_says_value f bs k l h =
    let says = heading_value bs k l h in
    operand_message f bs {c = 2} (λ z. absurd (omega (arith, z))) (λ z. absurd (omega (arith, z))) h.0 says.0 says.1 says.2 ∙ first_of_next _ refl (first_of_last _)

pub operand_says_checks :
    (f : Scenario) (bs : List ℕ) (m k l : ℕ) → Says bs (Checks m k l) →
    operand_refusal f bs ≡ first_of (checks_round_refusal 3 m ∷ message_refusal f m k l ∷ [])
operand_says_checks f bs m k l h =
    let says = heading_checks bs m k l h in
    operand_message f bs {c = 3} (λ z. absurd (omega (arith, z))) (λ z. absurd (omega (arith, z))) h.0 says.0 says.1 says.2

-- the command's byte is that of what it says
pub says_code : (bs : List ℕ) (c : Command) → Says bs c → command_in bs ≡ code_of c
says_code bs (Own k) h = h.0
says_code bs (Value k l) h = h.0
says_code bs (Checks m k l) h = h.0
says_code bs End h = h

-- n plays no part in an operand's size
pub operand_alike : (s : Allowed) (m : ℕ) → operand_size (settings 0 s.t s.w) m ≡ operand_size (group_of s) m
unfolding operand_size check_count value_size settings
operand_alike s m = refl

pub small_settings : (s : Allowed) → (s.n ≤ most_columns) × (s.t ≤ 10) × (s.w ≤ value_room)
small_settings s = let b = bounds _ _ _ s.allowed in omega (arith, b.0, b.1, b.2)

pub not_own : (c : Command) → ((k : ℕ) → c ≡ Own k → ⊥) → eqb (code_of c) 4 ≡ false
not_own (Own k) h = absurd (h k refl)
not_own (Value k l) h = refl
not_own (Checks m k l) h = refl
not_own End h = refl

pub not_end : (c : Command) → (c ≡ End → ⊥) → code_of c ≡ 15 → ⊥
not_end (Own k) h e = absurd (omega (arith, e))
not_end (Value k l) h e = absurd (omega (arith, e))
not_end (Checks m k l) h e = absurd (omega (arith, e))
not_end End h e = h refl
