-- Why `all_ways` in src/replace.rt keeps its loop `exit`.

use Rattle.std.proofs.Common.{◌≡◌, ℕ, ◌+◌, ◌<◌, List, [], ◌∷◌, ◌++◌, length, drop, get_or, add-one, ap, sym, ◌∙◌}
use Rattle.std.proofs.Math.Seq.{drop-cons}
use Rattle.ls_lowered.specs.declared.tree.Statement as code
use Rattle.ls_lowered.specs.LoweredTree.{Statement}
use Rattle.ls_lowered.specs.Plain.{plain_statement, in_front}
use Rattle.ls_finally_exits.specs.declared.exits.Exit.{Exit}
use Rattle.ls_finally_exits.specs.declared.exits.Exit.TheVariants.{Leave}
use Rattle.ls_finally_exits.specs.Exits.{exit_of, ways}
use Rattle.ls_finally_copies.specs.Ways.{both}
use Rattle.ls_finally_exits.specs.PlainExits.{plain_exit, plain_exits}
use Rattle.ls_finally_copies.proofs.Fronts.{one_made}
use Rattle.ls_finally_exits.proofs.replace.all_ways.Goals as goal

-- one way more is made
way_made : (r : ℕ) (f : Statement) (found : List Exit) (i : ℕ) (x : Exit) (old new : List code.Statement)
    (made : code.Statement) →
    i < length found →
    new ≡ old ++ made ∷ [] → plain_statement made ≡ both f (exit_of r (plain_exit (get_or found i x))) →
    in_front new (ways r f (plain_exits (drop (i + 1) found))) ≡ in_front old (ways r f (plain_exits (drop i found)))
way_made r f found i x old new made l pushed is =
    let split : drop i found ≡ get_or found i x ∷ drop (i + 1) found = drop-cons found i x l ∙
    ap (λ n. get_or found i x ∷ drop n found) (sym (add-one i)) in
    one_made old new made (both f (exit_of r (plain_exit (get_or found i x))))
    (ways r f (plain_exits (drop (i + 1) found))) pushed is
    ∙ ap (λ (ys : List Exit). in_front old (ways r f (plain_exits ys))) (sym split)

pub loop-exit-preserved : goal.loop-exit-preserved
loop-exit-preserved c =
    let f = plain_statement c.args.finally.now in
    way_made (c.args.free + 1) f c.args.found.now c.loop-exit.exit-index (Leave 0) c.loop-exit.out.items
    c.put.new.items.items c.in_ok-copied_before.field-0 c.loop-exit-test.true c.in_ok-put.ensures
    (c.in_ok-copied_before.ensures ∙ ap (both f) c.exit_statement.ensures)
    ∙ c.loop-exit.invariant
