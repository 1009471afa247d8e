-- Why `add_by_effect` in src/pairs.rt keeps its contract.

use Rattle.std.proofs.Common.{◌≡◌, ◌∙◌, Bool, ap, sym}
use Rattle.ls_automaton.specs.Held.{entry_at, has_taken, held_of, helds_of}
use Rattle.ls_automaton.proofs.Layers.{layered_open, layered_taken}
use Rattle.ls_automaton.proofs.pairs.add_by_effect.Goals as goal

pub returns-then-has_taken : goal.returns-then-has_taken
returns-then-has_taken c =
    layered_taken c.args.rows.now c.args.end.now (held_of c.args.pair.now) (helds_of c.args.next.now.items)
    (helds_of c.args.found.now.items) (helds_of c.add_kept.new.found.items)
    (ap (λ l. has_taken (entry_at l c.args.end.now.thread c.args.end.now.call)) (sym c.as_slice.ensures.value)
    ∙ ap has_taken (sym c.entry.ensures) ∙ sym c.has_taken.ensures ∙ c.if-has_taken.true)
    c.in_ok-add_kept.ensures

pub returns : goal.returns
returns c =
    layered_open c.args.rows.now c.args.end.now (held_of c.args.pair.now) (helds_of c.args.next.now.items)
    (helds_of c.add_next.new.next.items) (helds_of c.args.found.now.items)
    (ap (λ l. has_taken (entry_at l c.args.end.now.thread c.args.end.now.call)) (sym c.as_slice.ensures.value)
    ∙ ap has_taken (sym c.entry.ensures) ∙ sym c.has_taken.ensures ∙ c.if-has_taken.false)
    c.in_ok-add_next.ensures
