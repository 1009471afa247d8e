-- Why `finish` in src/turnstile.rt keeps its clauses `bounds` and `record`.

use Rattle.std.proofs.Common.{◌≡◌, ◌≤◌, ◌*◌, ℕ, List, length, take, subst, ap, ◌∙◌, sym, arith}
use mathlib.Core.Option.{some-injective}
use Rattle.ls_code.specs.Machine.{Machine, loaded, machine_run}
use Rattle.ls_live.proofs.Moves.{closes}
use Rattle.ls_live.proofs.turnstile.finish.Goals as goal

pub returns-clause-bounds : goal.returns-clause-bounds
returns-clause-bounds c =
    let k = c.args.table.shared.key in
    let f = closes (loaded k.code.value k.cells) k.tape.value.items _ _ _ _ _ c.requires.all.0 c.requires.all.1
    c.close_with-closed.ensures.values.2 in
    (subst (λ (xs : List ℕ). c.args.all.me.0.steps ≤ length xs) (sym c.requires.tape) f.2, f.3, f.4)

pub returns-clause-record : goal.returns-clause-record
returns-clause-record c =
    let k = c.args.table.shared.key in
    let start = loaded k.code.value k.cells in
    let f = closes start k.tape.value.items _ _ _ _ _ c.requires.all.0 c.requires.all.1
    c.close_with-closed.ensures.values.2 in
    let word : c.word.result ≡ 2 * c.args.all.me.0.steps = some-injective _ _ (sym c.word.ensures ∙ f.1) in
    let machine = some-injective _ _ (sym c.take-machine.ensures.value ∙ f.0) ∙
    ap (λ (xs : List ℕ). machine_run start (take c.args.all.me.0.steps xs)) (sym c.requires.tape) in
    record {
      schedule = c.new.ensures.schedule ∙
          (c.of.ensures ∙ (c.truncate.ensures.items ∙ ap (λ (n : ℕ). take n c.args.tape.items) (omega arith)));
      history = c.new.ensures.history ∙ ap (λ (m : Machine). m.history) machine;
    }
