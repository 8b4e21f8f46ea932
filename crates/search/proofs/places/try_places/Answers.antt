-- `try_places` meets its contract: a turn for each place, until no plane has a root left or the places end. Assumes nothing.
use mathlib.Core.Path.{◌≡◌, refl, sym, ◌∙◌, ap, ap₂}
use Prim.Native.Nat.{ℕ, ◌*◌, ◌<◌}
use native.Mathlib.Omega.{arith}
use Rattle.field.specs.Field.{power}
use Rattle.field.proofs.Power.{power_lt}
use Rattle.lanes.specs.Lanes.{lane}
use Rattle.code.specs.Size.{value_room}
use Rattle.code.specs.Settings.{settings, check_count}
use Rattle.code.specs.Polynomial.{eval}
use Rattle.locator.specs.Errors.{place_exponent}
use Rattle.locator.specs.Search.{at_place}
use Rattle.errors.specs.Roots.{polynomial}
use Rattle.search.specs.Steps.{SameValues}
use Rattle.search.proofs.Walk.{walked_none, walked_more, walked_early, ended_none, ended_more}
use Rattle.search.proofs.places.try_places.Goals as goal
use Rattle.search.proofs.places.try_places.Goals.{At-loop-j}

pub loop-j-init : goal.loop-j-init
loop-j-init c =
    let w = walked_none _ _ _ _ _ _ c.requires.0 refl refl refl refl in
    (refl, w, ended_none _ _ _ _ _ _ w)

-- the values of a turn's place
here :
    (l : At-loop-j) (n count e v p : ℕ) → n ≡ l.args.settings.n → count ≡ 2 * l.args.settings.t → e ≡ place_exponent n count l.loop-j.j → p < value_room →
    v ≡ eval (lane p l.args.polynomials.now.many l.args.polynomials.now.rows.now) (power 2 e) →
    let s = l.args.settings in v ≡ at_place (settings s.n s.t value_room) (polynomial l.args.polynomials.now.rows.now l.args.roots p) l.loop-j.j
unfolding settings check_count at_place SameValues
here l n count e v p f g q h w =
    w ∙ l.requires.1 p (power 2 e) h (power_lt 2 e)
    ∙ ap (λ (i : ℕ). eval (polynomial l.args.polynomials.now.rows.now l.args.roots p) (power 2 i)) (q ∙ ap₂ (λ (m k : ℕ). place_exponent m k l.loop-j.j) f g)

pub loop-j-preserved : goal.loop-j-preserved
loop-j-preserved c =
    let e = c.place_exponent in
    let w =
    walked_more _ _ _ _ _ _ _ _ _ _ _ (λ p h. here (goal.at.loop-j-preserved c).At-loop-j _ _ e.result _ p c.columns-n.ensures.value c.check_count-count.ensures.value e.ensures.1 h (c.values-values.ensures.new p (omega arith))) c.loop-j.invariant.1
    c.count_place.ensures c.find_roots.ensures in
    (omega arith, w, ended_more _ _ _ _ _ _ _ _ _ _ (sym c.is_zero.ensures ∙ c.if-is_zero.false) c.loop-j.invariant.1 w)

pub returns-then-is_zero : goal.returns-then-is_zero
returns-then-is_zero c =
    let w = c.loop-j.invariant.1 in record {
      walked = walked_early _ _ _ _ _ _ _ _ (omega arith) (sym c.is_zero.ensures ∙ c.if-is_zero.true) w;
      ended = record { within = omega arith; most = rw c.loop-j.invariant.0 c.loop-j.invariant.2; ahead = λ j p h. w.ahead j p (omega arith) };
    }
