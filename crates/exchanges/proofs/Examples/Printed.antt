-- The exchange of 004, as corrected: column 4 splits, and sends each frame twice, so that one is refused in each round.
-- Assumes nothing: these are definitions.
use mathlib.Core.Bool.{cond}
use mathlib.Core.List.{List, [], ◌∷◌}
use mathlib.Core.Option.{some}
use Prim.Native.Nat.{ℕ}
use lib.Dec.{eqb}
use Rattle.column.specs.Call.{Call, taking, closing}
use Rattle.exchanges.proofs.Testing.Conditions.{Script}
use Rattle.exchanges.proofs.Examples.Exchange.{vector, pick, Exchange, sent, split, script}

unfoldable pub printed : Exchange
printed =
    record {
      agreed = λ k. pick k (vector 241 86 35 35) (vector 241 86 35 35) (vector 241 86 35 0);
      checks = λ k. pick k (39 ∷ 78 ∷ []) (39 ∷ 78 ∷ []) (8 ∷ 182 ∷ []);
      bad =
          λ m k.
          pick m (pick k (35 ∷ []) (35 ∷ []) (40 ∷ [])) (pick k (22 ∷ 61 ∷ []) (0 ∷ 136 ∷ []) (121 ∷ 143 ∷ []))
          (pick k (87 ∷ 61 ∷ []) (87 ∷ 61 ∷ []) (123 ∷ 149 ∷ []));
      bad_row =
          λ m k.
          some
          (cond (eqb m 2) (pick k (vector 241 49 35 35) (vector 241 86 129 35) (vector 157 86 35 40))
          (pick k (vector 241 86 0 35) (vector 241 86 0 35) (vector 241 86 35 82)));
      -- columns 1 and 2 have the same V and Y, column 3 another at column 4, and what column 4 sends changes one place each time
      told = λ m k. pick k (0 ∷ 0 ∷ 1 ∷ 1 ∷ []) (0 ∷ 0 ∷ 1 ∷ 1 ∷ []) (1 ∷ 1 ∷ 0 ∷ 1 ∷ []);
    }

-- the calls: in each round the frames of the two other good columns, that of column 4, and that again
unfoldable pub printed_round : (round reader a b : ℕ) → List Call → List Call
printed_round m k a b rest =
    taking a (sent printed m a) ∷ taking b (sent printed m b) ∷ taking 4 (split printed m k) ∷ taking 4 (split printed m k) ∷ closing ∷ rest

unfoldable pub printed_calls : (reader a b : ℕ) → List Call
printed_calls k a b = printed_round 1 k a b (printed_round 2 k a b (printed_round 3 k a b []))

unfoldable pub printed_scripts : List Script
printed_scripts =
    script printed 1 (printed_calls 1 2 3) ∷ script printed 2 (printed_calls 2 1 3) ∷ script printed 3 (printed_calls 3 1 2) ∷ []

-- what each of them answers
unfoldable pub printed_says : List ℕ
printed_says = 0 ∷ 0 ∷ 0 ∷ 15 ∷ 0 ∷ 0 ∷ 0 ∷ 0 ∷ 15 ∷ 0 ∷ 0 ∷ 0 ∷ 0 ∷ 15 ∷ 0 ∷ []
