-- The lowest and the highest of heights, how far they are apart, and half of that. Assumes nothing: these are definitions.
use Rattle.std.specs.Prelude.{List, ◌-◌, ℤ, pos, ◌+ℤ◌, ◌-ℤ◌, length, get_or}
use Rattle.level.specs.Level.{ascending, halved}

-- the lowest and the highest: the first and the last in ascending order, and 0 where there are no heights
unfoldable pub lowest : List ℤ → ℤ
lowest hs = get_or (ascending hs) 0 (pos 0)

unfoldable pub highest : List ℤ → ℤ
highest hs = get_or (ascending hs) (length hs - 1) (pos 0)

-- the spread: how far these two are apart
unfoldable pub spread : List ℤ → ℤ
spread hs = highest hs -ℤ lowest hs

-- half of a number, rounded up: 7 halves to 4
unfoldable pub half_up : ℤ → ℤ
half_up z = halved (z +ℤ pos 1)
