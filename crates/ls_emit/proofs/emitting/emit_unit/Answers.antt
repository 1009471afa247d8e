-- Why `emit_unit` in src/emitting.rt keeps what `emit_statement` requires.

use Rattle.std.proofs.Common.{◌≡◌, ◌∙◌, ◌-◌, ℕ, List, [], ◌∷◌, length, take, drop, sym, subst, arith}
use Rattle.std.proofs.lemmas.List.{take_all}
use Rattle.ls_lowered.specs.Plain.{plain_statement}
use Rattle.ls_emit.specs.Statements.{statement_size}
use Rattle.ls_emit.specs.Ahead.{sizes_ahead, AreAhead}
use Rattle.ls_emit.proofs.Listed.{listed_ahead}
use Rattle.ls_emit.proofs.emitting.emit_unit.Goals as goal

pub emit_statement-requires-clause-sized : goal.emit_statement-requires-clause-sized
emit_statement-requires-clause-sized c =
    let body = plain_statement c.args.method.now.body in
    let listed : List ℕ = statement_size body ∷ sizes_ahead body [] in
    let is : c.deref.result.now ≡ listed = c.deref.ensures.value ∙ c.in_ok-sizes.ensures in
    let all : take (length listed - 1) (drop 1 listed) ≡ sizes_ahead body [] = take_all (length listed - 1)
    (sizes_ahead body []) (omega arith) in
    subst (λ (l : List ℕ). AreAhead body (take (length l - 1) (drop 1 l))) (sym is)
    (subst (AreAhead body) (sym all) (listed_ahead body []))
