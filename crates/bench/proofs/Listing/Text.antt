-- A text put behind another, piece by piece: what is put and the rest of it are the whole, and what fits as a whole fits piece by piece.
-- Assumes nothing.
use mathlib.Core.Path.{◌≡◌, sym, ◌∙◌, ap}
use mathlib.Core.List.{List, [], ◌++◌, append_assoc, append-nil}
use Prim.Native.Nat.{ℕ, ◌+◌, ◌≤◌}
use native.Mathlib.Omega.{arith}
use lib.ListN.{length, take, length-append}
use lib.Seq.{length-take-le}

pub more_put : (text rest whole a more : List ℕ) → text ++ rest ≡ whole → rest ≡ a ++ more → (text ++ a) ++ more ≡ whole
more_put text rest whole a more h e = append_assoc text a more ∙ ap (◌++◌ text) (sym e) ∙ h

pub all_put : (text rest whole : List ℕ) → text ++ rest ≡ whole → rest ≡ [] → text ≡ whole
all_put text rest whole h e = sym (append-nil text) ∙ ap (◌++◌ text) (sym e) ∙ h

pub next_fits :
    (text rest old whole a more : List ℕ) (room : ℕ) → text ++ rest ≡ old ++ whole → rest ≡ a ++ more → length old + length whole ≤ room →
    length text + length a ≤ room
next_fits text rest old whole a more room h e fits =
    let all = sym (length-append text rest) ∙ ap length h ∙ length-append old whole in
    let part = ap length e ∙ length-append a more in
    omega (arith, all, part, fits)

-- how many bytes in front are the text
pub view_size : (size : ℕ) (bytes text : List ℕ) → take size bytes ≡ text → size ≤ length bytes → length text ≡ size
view_size size bytes text e h = ap length (sym e) ∙ length-take-le size bytes h
