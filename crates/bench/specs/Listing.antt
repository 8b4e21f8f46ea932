-- What the bench prints: "refused" and a number, or the settings and a line for each good column. Assumes nothing: these are definitions.
use Rattle.std.specs.Prelude.{cond, List, [], ◌∷◌, ◌++◌, ℕ, zero, suc, ◌+◌, ◌/◌, ◌%◌, ltb}
use Rattle.code.specs.Settings.{Settings}
use Rattle.grading.specs.Value.{Value, is_blank}
use Rattle.grading.specs.Held.{Held}
use Rattle.bench_file.specs.Scenario.{Scenario, is_good}

-- one decimal digit
unfoldable pub digit : ℕ → List ℕ
digit d = (48 + d) ∷ []

-- a number below 1000 in decimal, without leading zeros
unfoldable pub decimal : ℕ → List ℕ
decimal n =
    cond (ltb n 10) (digit n) (cond (ltb n 100) (digit (n / 10) ++ digit (n % 10)) (digit (n / 100) ++ (digit (n / 10 % 10) ++ digit (n % 10))))

-- bytes, each behind a point
unfoldable pub pointed : List ℕ → List ℕ
pointed [] = []
pointed (b ∷ bs) = (46 ∷ decimal b) ++ pointed bs

-- bytes joined by a point
unfoldable pub joined : List ℕ → List ℕ
joined [] = []
joined (b ∷ bs) = decimal b ++ pointed bs

-- a value: its bytes, or "-" for blank
unfoldable pub value_text : Value → List ℕ
value_text v = cond (is_blank v) (45 ∷ []) (joined v)

-- value/confidence
unfoldable pub held_text : Held → List ℕ
held_text h = value_text h.value ++ (47 ∷ decimal h.confidence)

-- value/confidence of each column, each behind a space
unfoldable pub holdings_text : List Held → List ℕ
holdings_text [] = []
holdings_text (h ∷ hs) = (32 ∷ held_text h) ++ holdings_text hs

-- the line of a good column: its number, and value/confidence of columns 1 to n
unfoldable pub column_line : (column : ℕ) → List Held → List ℕ
column_line k hs = decimal k ++ (holdings_text hs ++ (10 ∷ []))

-- "group n t w"
unfoldable pub group_line : Settings → List ℕ
group_line s =
    (103 ∷ 114 ∷ 111 ∷ 117 ∷ 112 ∷ 32 ∷ [])
    ++ (decimal s.n ++ ((32 ∷ decimal s.t) ++ ((32 ∷ decimal s.w) ++ (10 ∷ []))))

-- the lines of the good columns among so many from column k on
unfoldable pub column_lines : Scenario → (held : ℕ → List Held) → (many k : ℕ) → List ℕ
column_lines f held zero k = []
column_lines f held (suc n) k = cond (is_good f k) (column_line k (held k)) [] ++ column_lines f held n (suc k)

-- the settings, then a line for each good column
unfoldable pub listing : Scenario → (held : ℕ → List Held) → List ℕ
listing f held = group_line f.settings ++ column_lines f held f.settings.n 1

-- "refused N"
unfoldable pub refused_line : (number : ℕ) → List ℕ
refused_line n = (114 ∷ 101 ∷ 102 ∷ 117 ∷ 115 ∷ 101 ∷ 100 ∷ 32 ∷ []) ++ (decimal n ++ (10 ∷ []))
