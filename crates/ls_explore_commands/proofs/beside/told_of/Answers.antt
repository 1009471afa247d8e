-- Why `told_of` in src/beside.rt keeps its clause `beside`.

use Rattle.std.proofs.Common.{◌∙◌, ap, map, subst}
use Rattle.std.specs.Prelude.{string_bytes}
use Rattle.ls_labels.specs.Names.{Names}
use Rattle.ls_explore_commands.specs.Beside.{AreLines, Says, beside_text}
use Rattle.ls_explore_commands.proofs.RacesLemmas.{same_flags}
use Rattle.ls_explore_commands.proofs.beside.told_of.Goals as goal

pub returns-in-Never-clause-beside : goal.returns-in-Never-clause-beside
returns-in-Never-clause-beside c = λ never.
    let classes = c.args.classes.now in
    let i = c.args.image.now in
    let flags = map (λ v. v.items) c.as_slice-flags.result.now in
    let verdict = c.in_ok-verdict-in-Never.verdict in
    let tries = c.has_try_lock-tries.result in
    let lines = string_bytes c.in_ok-beside-in-Never.beside in
    let races = c.as_str.ensures.value ∙ c.in_ok-race_line-in-Never.ensures
    ∙ ap (λ (n : Names). beside_text n flags tries verdict) c.names_in.ensures.names in
    Says lines flags tries verdict
    (same_flags classes _ _ c.as_slice-flags.ensures.value c.in_ok-declared.ensures) c.has_try_lock-tries.ensures
    c.in_ok-verdict-in-Never.ensures (subst (λ t. AreLines i t lines) races c.in_ok-beside-in-Never.ensures)
