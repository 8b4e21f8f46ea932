-- What holds of each of a few numbers that are written out holds of each one among them. Assumes nothing.
use mathlib.Core.List.{List, [], ◌∷◌}
use lib.IntN.{ℤ}
use Rattle.gradecast.specs.Promise.{Among, first, other}

abbrev pub Each : (ℤ → Type 0) → List ℤ → Type 0
Each P [] = Unit {0}
Each P (h ∷ hs) = P h × Each P hs

pub each_of : (P : ℤ → Type 0) {z : ℤ} {hs : List ℤ} → Each P hs → Among z hs → P z
each_of P e (first hs) = e.0
each_of P e (other h hs i) = each_of P e.1 i
