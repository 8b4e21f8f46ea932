-- The settings of a group and where they are turned down. Assumes nothing: these are definitions.
use Rattle.std.specs.Prelude.{◌&&◌, not, cond, ℕ, ◌+◌, ◌*◌, ltb, leb}

-- n columns, t the bad ones borne, w the bytes of a value
pub record Settings : Type 0 where
  pub n : ℕ
  pub t : ℕ
  pub w : ℕ

unfoldable pub settings : (n t w : ℕ) → Settings
settings n t w = record { n = n; t = t; w = w }

-- 1: n not 1 to 32; 2: n below 3t + 1; 3: w not 1 to 8; 0: none of these
unfoldable pub settings_refusal : Settings → ℕ
settings_refusal s =
    cond (not (leb 1 s.n && leb s.n 32)) 1 (cond (ltb s.n (3 * s.t + 1)) 2 (cond (leb 1 s.w && leb s.w 8) 0 3))

-- how many check values a vector has: one for each root of its generator
unfoldable pub check_count : Settings → ℕ
check_count s = 2 * s.t

-- the bytes of a value in the code, and so the byte planes
unfoldable pub value_size : Settings → ℕ
value_size s = s.w
