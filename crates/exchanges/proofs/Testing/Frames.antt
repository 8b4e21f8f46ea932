-- Frames, tested, so that examples can be computed: whether bytes are the frame of a record's round, whether a call takes them in a
-- slot, and whether all that a list of calls gives under a slot passes a test. Assumes nothing.
use mathlib.Core.Path.{◌≡◌, refl, sym, ◌∙◌, ap₂}
use mathlib.Core.Bool.{Bool, true, false, cond, ◌&&◌}
use mathlib.Core.List.{List, [], ◌∷◌}
use Prim.Native.Nat.{ℕ, zero, suc}
use lib.Dec.{eqb}
use lib.ListN.{length, take}
use borrow.Author.Tests.{eqb-true, eq-eqb}
use Rattle.arrays.proofs.Bool.{and_split, true_not_false}
use Rattle.code.specs.Vector.{same}
use Rattle.code.proofs.Codewords.Quick.{quick_checks, checks_quick}
use Rattle.code.proofs.Vectors.Planes.{same_equal}
use Rattle.record.specs.Frame.{header_size, frame_size, header, operand_in, checks_in}
use Rattle.record.specs.Record.{Who, Found, Rec}
use Rattle.column.specs.Call.{Call, taking, sending, closing, asking, Passes, here, later, Operand, FrameOf}

-- the frame of a round
unfoldable pub operand_test : (round : ℕ) → Who → Found → List ℕ → Bool
operand_test zero w f xs = false
operand_test (suc zero) w f xs = same xs w.own
operand_test (suc (suc zero)) w f xs = quick_checks w.settings f.heard (checks_in w.settings xs)
operand_test (suc (suc (suc zero))) w f xs = quick_checks w.settings f.agreed (checks_in w.settings xs)
operand_test (suc (suc (suc (suc m)))) w f xs = false

operand_tested : (m : ℕ) (w : Who) (f : Found) (xs : List ℕ) → operand_test m w f xs ≡ true → Operand m w f xs
unfolding operand_test Operand
operand_tested zero w f xs e = true_not_false (sym e)
operand_tested (suc zero) w f xs e = same_equal xs w.own e
operand_tested (suc (suc zero)) w f xs e = checks_quick _ _ _ ∙ e
operand_tested (suc (suc (suc zero))) w f xs e = checks_quick _ _ _ ∙ e
operand_tested (suc (suc (suc (suc m)))) w f xs e = true_not_false (sym e)

unfoldable pub frame_test : (bytes : List ℕ) → Rec → Bool
frame_test bs r =
    same (take header_size bs) (header r.round r.who.number r.who.run)
    && (eqb (length bs) (frame_size r.who.settings r.round) && operand_test r.round r.who r.found (operand_in bs))

pub frame_tested : (bs : List ℕ) (r : Rec) → frame_test bs r ≡ true → FrameOf r bs
unfolding frame_test FrameOf
frame_tested bs r e =
    let head = and_split (same (take header_size bs) _) _ e in
    let size = and_split (eqb (length bs) _) _ head.1 in
    (same_equal _ _ head.0, eqb-true _ _ size.0, operand_tested r.round r.who r.found (operand_in bs) size.1)

-- a call that takes these bytes in a slot
unfoldable pub takes_now : (slot : ℕ) → (bytes : List ℕ) → List Call → Bool
takes_now k bs [] = false
takes_now k bs (taking j xs ∷ rest) = eqb j k && same xs bs
takes_now k bs (sending room ∷ rest) = false
takes_now k bs (closing ∷ rest) = false
takes_now k bs (asking ∷ rest) = false

pub taken_now : (k : ℕ) (bs : List ℕ) (rest : List Call) → takes_now k bs rest ≡ true → (more : List Call) × (rest ≡ taking k bs ∷ more)
unfolding takes_now
taken_now k bs [] e = true_not_false (sym e)
taken_now k bs (taking j xs ∷ rest) e =
    let both = and_split (eqb j k) (same xs bs) e in
    (rest, ap₂ (λ (i : ℕ) (ys : List ℕ). taking i ys ∷ rest) (eqb-true j k both.0) (same_equal xs bs both.1))
taken_now k bs (sending room ∷ rest) e = true_not_false (sym e)
taken_now k bs (closing ∷ rest) e = true_not_false (sym e)
taken_now k bs (asking ∷ rest) e = true_not_false (sym e)

-- what a list gives under a slot
unfoldable pub given_test : (test : List ℕ → Bool) → (slot : ℕ) → List Call → Bool
given_test test k [] = true
given_test test k (taking j bs ∷ cs) = cond (eqb j k) (test bs) true && given_test test k cs
given_test test k (sending room ∷ cs) = given_test test k cs
given_test test k (closing ∷ cs) = given_test test k cs
given_test test k (asking ∷ cs) = given_test test k cs

given_later : (test : List ℕ → Bool) (k : ℕ) (c : Call) (cs : List Call) → given_test test k (c ∷ cs) ≡ true → given_test test k cs ≡ true
unfolding given_test
given_later test k (taking j bs) cs e = (and_split (cond (eqb j k) (test bs) true) _ e).1
given_later test k (sending room) cs e = e
given_later test k closing cs e = e
given_later test k asking cs e = e

pub given_tested :
    (test : List ℕ → Bool) (k : ℕ) (bs : List ℕ) {r z : Rec} {cs rest : List Call} → given_test test k cs ≡ true → Passes r cs z (taking k bs ∷ rest) →
    test bs ≡ true
unfolding given_test
given_tested test k bs e p = go p e
  where
    go : {r z : Rec} {cs rest : List Call} → Passes r cs z (taking k bs ∷ rest) → given_test test k cs ≡ true → test bs ≡ true
    go (here r cs) e = rw (eq-eqb k k refl) at (and_split (cond (eqb k k) (test bs) true) _ e).0
    go (later r q z c cs rest l p) e = go p (given_later test k c cs e)
