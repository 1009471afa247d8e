-- Places in order, where the text grows or one more place comes.
use Rattle.std.proofs.Common.{ℕ, ◌≤◌, ◌<◌, List, [], ◌∷◌, ◌++◌, arith}
use Rattle.ls_java_output.specs.declared.place.Place.{Place}
use Rattle.ls_java_output.specs.Places.{AreInOrder}

-- places in order are so in a longer text
pub longer : (tokens from : ℕ) (ps : List Place) (mid upto : ℕ) →
    AreInOrder tokens from ps mid → mid ≤ upto → AreInOrder tokens from ps upto
longer tokens from [] mid upto order more = omega arith
longer tokens from (p ∷ ps) mid upto (low, high, token, order) more =
    (low, high, token, longer tokens p.end ps mid upto order more)

-- places in order and one behind them are in order
pub one_more : (tokens from : ℕ) (ps : List Place) (mid : ℕ) (p : Place) (upto : ℕ) →
    AreInOrder tokens from ps mid → mid ≤ p.start → p.start ≤ p.end → p.token < tokens → p.end ≤ upto →
    AreInOrder tokens from (ps ++ p ∷ []) upto
one_more tokens from [] mid p upto order low high token end = (omega arith, high, token, end)
one_more tokens from (q ∷ ps) mid p upto (first, size, known, order) low high token end =
    (first, size, known, one_more tokens q.end ps mid p upto order low high token end)
