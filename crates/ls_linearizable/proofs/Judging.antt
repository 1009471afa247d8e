-- How histories are judged, event by event.
use Rattle.std.proofs.Common.{◌||◌, [], ◌∷◌, ap}
use Rattle.ls_linearizable.specs.Judging.{LaterStaysBad}

pub stays_bad : LaterStaysBad
stays_bad v e h = ap (λ b. b || v (e ∷ [])) h
