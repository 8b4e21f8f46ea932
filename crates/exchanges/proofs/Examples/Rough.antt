-- An exchange in which calls are refused all along the lists, and frames come early. Column 4 splits; to column 1 it sends 22, 77 in round
-- two, which repairs nothing, so that its row is "none"; and to column 3 it sends nothing in round three. Columns 2 and 3 run ahead of
-- their readers, and so does column 4. Assumes nothing: these are definitions.
use mathlib.Core.Bool.{cond}
use mathlib.Core.List.{List, [], ◌∷◌, ◌++◌, map}
use mathlib.Core.Option.{none, some}
use Prim.Native.Nat.{ℕ}
use lib.Dec.{eqb}
use Rattle.record.specs.Frame.{header}
use Rattle.record.specs.Record.{told_missing, told_none}
use Rattle.column.specs.Call.{Call, taking, sending, closing, asking}
use Rattle.exchanges.proofs.Testing.Conditions.{Script}
use Rattle.exchanges.proofs.Examples.Exchange.{vector, pick, Exchange, frame, sent, split, script}

unfoldable pub rough : Exchange
rough =
    record {
      agreed = λ k. pick k (vector 241 86 35 0) (vector 241 86 35 35) (vector 241 86 35 0);
      checks = λ k. pick k (8 ∷ 182 ∷ []) (39 ∷ 78 ∷ []) (8 ∷ 182 ∷ []);
      bad =
          λ m k.
          pick m (pick k (35 ∷ []) (35 ∷ []) (40 ∷ [])) (pick k (22 ∷ 77 ∷ []) (0 ∷ 136 ∷ []) (121 ∷ 143 ∷ []))
          (pick k (39 ∷ 78 ∷ []) (87 ∷ 61 ∷ []) []);
      bad_row =
          λ m k.
          cond (eqb m 2) (pick k none (some (vector 241 86 129 35)) (some (vector 157 86 35 40)))
          (pick k (some (vector 241 86 35 35)) (some (vector 241 86 0 35)) none);
      -- in round three column 2's Y is the one that differs, and columns 1 and 3 have the same
      told =
          λ m k.
          cond (eqb m 2) (pick k (0 ∷ 0 ∷ 1 ∷ told_none ∷ []) (0 ∷ 0 ∷ 1 ∷ 1 ∷ []) (1 ∷ 1 ∷ 0 ∷ 1 ∷ []))
          (pick k (0 ∷ 1 ∷ 0 ∷ 1 ∷ []) (1 ∷ 0 ∷ 1 ∷ 1 ∷ []) (0 ∷ 1 ∷ 0 ∷ told_missing ∷ []));
    }

-- its lists, each call with what it answers: a refusal's number, or 0 where it is done
pub record Answered : Type 0 where
  pub call : Call
  pub says : ℕ

unfoldable pub done : Call → Answered
done c = record { call = c; says = 0 }

unfoldable pub refused : ℕ → Call → Answered
refused n c = record { call = c; says = n }

unfoldable pub calls_of : List Answered → List Call
calls_of rows = map (λ a. a.call) rows

unfoldable pub says_of : List Answered → List ℕ
says_of rows = map (λ a. a.says) rows

-- column 1: results asked too early (17) and again after the end; sending into 4 and 5 bytes where the frame has 5 and 6 (16), into as
-- many as it has, and into 40; two bytes only (9), another run number (13), a frame repeated (15), one of the round before (14), one
-- byte too few (11); column 2's frame of round two a round early, repeated early and in its round (15), and its frame of round three two
-- rounds ahead (14); after the end a closing, a sending and a frame (7)
unfoldable pub rough_one : List Answered
rough_one =
    refused 17 asking
    ∷ refused 16 (sending 4)
    ∷ done (sending 5)
    ∷ done (taking 2 (sent rough 2 2))
    ∷ done (taking 2 (sent rough 1 2))
    ∷ refused 15 (taking 2 (sent rough 2 2))
    ∷ refused 14 (taking 2 (sent rough 3 2))
    ∷ refused 9 (taking 3 (17 ∷ 3 ∷ []))
    ∷ refused 13 (taking 3 (header 1 3 8 ++ (35 ∷ [])))
    ∷ done (taking 3 (sent rough 1 3))
    ∷ done (taking 4 (split rough 1 1))
    ∷ refused 15 (taking 4 (split rough 1 1))
    ∷ done closing
    ∷ done (sending 40)
    ∷ refused 15 (taking 2 (sent rough 2 2))
    ∷ refused 14 (taking 2 (sent rough 1 2))
    ∷ done (taking 3 (sent rough 2 3))
    ∷ refused 11 (taking 4 (frame 2 4 (22 ∷ [])))
    ∷ done (taking 4 (split rough 2 1))
    ∷ done closing
    ∷ refused 16 (sending 5)
    ∷ done (sending 6)
    ∷ refused 17 asking
    ∷ done (taking 2 (sent rough 3 2))
    ∷ done (taking 3 (sent rough 3 3))
    ∷ done (taking 4 (split rough 3 1))
    ∷ done closing
    ∷ done asking
    ∷ refused 7 closing
    ∷ refused 7 (sending 6)
    ∷ refused 7 (taking 2 (sent rough 3 2))
    ∷ done asking
    ∷ []

-- column 2: a frame in a slot that there is not and in its own (8), a good column's frame repeated (15), an unknown command (10),
-- another's number as sender (12), one byte too many (11); column 4's frame of round two a round early, then another of that round, early
-- and in its round (15); column 3's frame of round three in round two and never after
unfoldable pub rough_two : List Answered
rough_two =
    done (sending 164)
    ∷ refused 8 (taking 5 (sent rough 1 1))
    ∷ refused 8 (taking 2 (sent rough 1 2))
    ∷ done (taking 1 (sent rough 1 1))
    ∷ refused 15 (taking 1 (sent rough 1 1))
    ∷ done (taking 3 (sent rough 1 3))
    ∷ refused 10 (taking 4 (68 ∷ 4 ∷ 0 ∷ 7 ∷ 35 ∷ []))
    ∷ refused 12 (taking 4 (frame 1 3 (35 ∷ [])))
    ∷ refused 11 (taking 4 (frame 1 4 (35 ∷ 35 ∷ [])))
    ∷ done (taking 4 (split rough 2 2))
    ∷ refused 15 (taking 4 (split rough 2 1))
    ∷ done (taking 4 (split rough 1 2))
    ∷ done closing
    ∷ done (sending 6)
    ∷ refused 15 (taking 4 (split rough 2 3))
    ∷ done (taking 3 (sent rough 3 3))
    ∷ done (taking 3 (sent rough 2 3))
    ∷ done (taking 1 (sent rough 2 1))
    ∷ done closing
    ∷ done (sending 7)
    ∷ done (taking 1 (sent rough 3 1))
    ∷ done (taking 4 (split rough 3 2))
    ∷ done closing
    ∷ refused 7 closing
    ∷ done asking
    ∷ []

-- column 3: nothing at all (9), a run number of which only the low byte is right (13), and no frame of column 4 in round three; column 1's
-- frame of round two and column 4's come a round early
unfoldable pub rough_three : List Answered
rough_three =
    done (sending 5)
    ∷ refused 9 (taking 1 [])
    ∷ done (taking 4 (split rough 1 3))
    ∷ done (taking 2 (sent rough 1 2))
    ∷ done (taking 1 (sent rough 1 1))
    ∷ done (taking 1 (sent rough 2 1))
    ∷ done (taking 4 (split rough 2 3))
    ∷ done closing
    ∷ refused 17 asking
    ∷ done (sending 6)
    ∷ refused 13 (taking 2 (header 2 2 263 ++ (39 ∷ 78 ∷ [])))
    ∷ done (taking 2 (sent rough 2 2))
    ∷ done closing
    ∷ done (sending 6)
    ∷ done (taking 1 (sent rough 3 1))
    ∷ done (taking 2 (sent rough 3 2))
    ∷ done closing
    ∷ done asking
    ∷ []

unfoldable pub rough_lists : List (List Answered)
rough_lists = rough_one ∷ rough_two ∷ rough_three ∷ []

unfoldable pub rough_scripts : List Script
rough_scripts = script rough 1 (calls_of rough_one) ∷ script rough 2 (calls_of rough_two) ∷ script rough 3 (calls_of rough_three) ∷ []
