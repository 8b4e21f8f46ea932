-- `decode` meets its contract: the syndromes, what is looked for in each plane, the walk, and the errors at the roots that it found. Assumes
-- nothing.
use native.Mathlib.Omega.{arith}
use Rattle.code.specs.Settings.{settings, check_count}
use Rattle.code.proofs.ValidSettings.{bounds}
use Rattle.search.proofs.Seeking.{fits}
use Rattle.search.proofs.Marked.{unsought}
use Rattle.search.proofs.Decoding.{walked_as, decoded}
use Rattle.search.proofs.decode.Goals as goal

pub seek_all-sought-requires : goal.seek_all-sought-requires
seek_all-sought-requires c = c.requires

pub walk-found-requires : goal.walk-found-requires
walk-found-requires c = fits _ _ _ _ _ _ c.seek_all-sought.ensures

pub put_found_errors-requires : goal.put_found_errors-requires
put_found_errors-requires c =
    let z = bounds _ _ _ c.args.settings.allowed in
    let walk = c.walk-found.ensures in record {
      weighted_len = walk.walked.long;
      n_le_most_columns = (omega arith, omega arith, omega (arith, walk.ended.within), c.seek_all-sought.ensures.long, c.syndromes-sums.ensures.long);
      fits = (rw c.bad.ensures.value (fits _ _ _ _ _ _ c.seek_all-sought.ensures), walk.walked.left_long, unsought _ _ _ _ _ _ _ walk.walked);
    }

pub returns : goal.returns
unfolding settings check_count
returns c =
    let s = c.args.settings in
    let group = settings s.n s.t s.w in
    let walk = c.walk-found.ensures in
    decoded s.w _ group c.args.difference.now _ _ _ _ _ _ _ s.allowed c.fits-difference (bounds _ _ _ s.allowed).2 c.requires
    (rw c.check_count.ensures.value at c.syndromes-sums.ensures) c.seek_all-sought.ensures (walked_as group _ _ _ _ _ _ walk.walked) walk.ended
    (rw (c.columns.ensures.value, c.bad.ensures.value) at c.put_found_errors.ensures)
