-- What is seen of moves of threads.
use Rattle.std.proofs.Common.{◌≡◌, ℕ, Bool, List, sym, ap, subst}
use Rattle.ls_events.specs.declared.event.Event.{Event}
use Rattle.ls_meaning.specs.Still.{IsStill}
use Rattle.ls_search_laws.specs.Configuration.{Configuration, Stride}
use Rattle.ls_search_laws.specs.Stepping.{events_of}
use Rattle.ls_transitions.specs.declared.moves.Move.{Move}
use Rattle.ls_transitions.specs.declared.moves.Move.TheVariants as moves
use Rattle.ls_transitions.specs.Tables.{Table}
use Rattle.ls_search.specs.Strides.{IsStrideBy}
use Rattle.ls_spinning.specs.Moves.{AreAny, IsStillMove, events_by}

-- a move that doesn't act
pub still_by : (t : Table) (c : Configuration) (works : List ℕ) (u : ℕ) (m : Move) (s : Stride) → IsStillMove m →
    IsStrideBy t c works u m s →
    IsStill s.did
still_by t c works u moves.Ended s still is = subst IsStill (sym (ap (λ (z : Stride). z.did) is)) tt
still_by t c works u moves.Trapped s still is = subst IsStill (sym (ap (λ (z : Stride). z.did) is)) tt
still_by t c works u moves.Waits s still is = subst IsStill (sym (ap (λ (z : Stride). z.did) is)) tt
still_by t c works u (moves.Acts step) s still is = absurd still

-- a move has the events of its step
pub events_same : (t : Table) (c : Configuration) (works : List ℕ) (u : ℕ) (m : Move) (s : Stride) →
    IsStrideBy t c works u m s →
    events_by u m ≡ events_of u s.did
events_same t c works u moves.Ended s is = ap (λ (z : Stride). events_of u z.did) (sym is)
events_same t c works u moves.Trapped s is = ap (λ (z : Stride). events_of u z.did) (sym is)
events_same t c works u moves.Waits s is = ap (λ (z : Stride). events_of u z.did) (sym is)
events_same t c works u (moves.Acts step) s is = ap (λ (z : Stride). events_of u z.did) (sym is.is)

pub some_same : (b : Bool) (events events' : List Event) → events ≡ events' → AreAny b events → AreAny b events'
some_same b events events' same is = subst (AreAny b) same is
