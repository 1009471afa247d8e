-- Why `add_longer` in src/numbering.rt keeps its clauses `is`, `numbered` and `keeps`.

use Rattle.std.proofs.Common.{rules, ◌≡◌, ◌++◌, ◌∷◌, [], List, Some, length, refl, sym, ap, ◌∙◌, subst}
use Rattle.std.specs.Prelude.{slice_get}
use Rattle.std.proofs.lemmas.Option.{slice_get_read}
use Rattle.ls_history_numbers.specs.declared.numbering.Known.{Known}
use Rattle.ls_history_numbers.specs.Numbers.{IsOf}
use Rattle.ls_history_numbers.proofs.Lists.{some_is}
use Rattle.ls_history_numbers.proofs.Longer.{is_new, keeps, numbered}
use Rattle.ls_history_numbers.proofs.numbering.add_longer.Goals as goal

pub returns-clause-is : goal.returns-clause-is
returns-clause-is c = λ q q_is.
    let old : List Known = c.args.all.now.items in
    let p : Known = c.index_mut.result.now in
    let p_is : slice_get c.args.all.now.items c.args.number ≡ Some c.index_mut.result.now =
    slice_get_read c.args.all.now.items (length c.args.all.now.items) c.args.number c.index_mut.result.now refl
    c.requires.within c.index_mut.ensures.value in
    let more_is : c.len-more.result ≡ length c.args.all.now.items = search rules in
    let one_longer : c.note_longer.new.known.longer.items ≡ c.index_mut.result.now.longer.items
    ++ length c.args.all.now.items ∷ [] =
    c.in_ok-note_longer.ensures.longer ∙ ap (λ m. c.index_mut.result.now.longer.items ++ m ∷ []) more_is in
    let events : c.in_ok-known.known.events.items ≡ c.index_mut.result.now.events.items ++ c.args.event.now ∷ [] =
    c.in_ok-known.ensures.events c.index_mut.result.now
    (ap (λ (l : List Known). slice_get l c.args.number) c.deref.ensures.value ∙ p_is) in
    let same : c.index_mut.result.now ≡ q = some_is (sym p_is ∙ q_is) in
    subst (λ n. IsOf c.push.new.self.items n (q.events.items ++ c.args.event.now ∷ [])) (sym more_is)
    (subst (λ (x : Known). IsOf c.push.new.self.items (length c.args.all.now.items)
    (x.events.items ++ c.args.event.now ∷ [])) same
    (is_new c.args.all.now.items c.push.new.self.items c.args.number c.index_mut.result.now c.note_longer.new.known
    c.in_ok-known.known c.requires.numbered p_is c.note_longer.ensures.events c.note_longer.ensures.before one_longer
    c.in_ok-push.ensures.items c.args.event.now c.in_ok-known.ensures.before c.in_ok-known.ensures.longer events
    (c.requires.none c.index_mut.result.now p_is)))

pub returns-clause-numbered : goal.returns-clause-numbered
returns-clause-numbered c =
    let old : List Known = c.args.all.now.items in
    let p : Known = c.index_mut.result.now in
    let p_is : slice_get c.args.all.now.items c.args.number ≡ Some c.index_mut.result.now =
    slice_get_read c.args.all.now.items (length c.args.all.now.items) c.args.number c.index_mut.result.now refl
    c.requires.within c.index_mut.ensures.value in
    let more_is : c.len-more.result ≡ length c.args.all.now.items = search rules in
    let one_longer : c.note_longer.new.known.longer.items ≡ c.index_mut.result.now.longer.items
    ++ length c.args.all.now.items ∷ [] =
    c.in_ok-note_longer.ensures.longer ∙ ap (λ m. c.index_mut.result.now.longer.items ++ m ∷ []) more_is in
    let events : c.in_ok-known.known.events.items ≡ c.index_mut.result.now.events.items ++ c.args.event.now ∷ [] =
    c.in_ok-known.ensures.events c.index_mut.result.now
    (ap (λ (l : List Known). slice_get l c.args.number) c.deref.ensures.value ∙ p_is) in
    numbered c.args.all.now.items c.push.new.self.items c.args.number c.index_mut.result.now c.note_longer.new.known
    c.in_ok-known.known c.requires.numbered p_is c.note_longer.ensures.events c.note_longer.ensures.before one_longer
    c.in_ok-push.ensures.items c.args.event.now c.in_ok-known.ensures.before c.in_ok-known.ensures.longer events
    (c.requires.none c.index_mut.result.now p_is)

pub returns-clause-keeps : goal.returns-clause-keeps
returns-clause-keeps c =
    let old : List Known = c.args.all.now.items in
    let p : Known = c.index_mut.result.now in
    let p_is : slice_get c.args.all.now.items c.args.number ≡ Some c.index_mut.result.now =
    slice_get_read c.args.all.now.items (length c.args.all.now.items) c.args.number c.index_mut.result.now refl
    c.requires.within c.index_mut.ensures.value in
    let more_is : c.len-more.result ≡ length c.args.all.now.items = search rules in
    let one_longer : c.note_longer.new.known.longer.items ≡ c.index_mut.result.now.longer.items
    ++ length c.args.all.now.items ∷ [] =
    c.in_ok-note_longer.ensures.longer ∙ ap (λ m. c.index_mut.result.now.longer.items ++ m ∷ []) more_is in
    let events : c.in_ok-known.known.events.items ≡ c.index_mut.result.now.events.items ++ c.args.event.now ∷ [] =
    c.in_ok-known.ensures.events c.index_mut.result.now
    (ap (λ (l : List Known). slice_get l c.args.number) c.deref.ensures.value ∙ p_is) in
    keeps c.args.all.now.items c.push.new.self.items c.args.number c.index_mut.result.now c.note_longer.new.known
    c.in_ok-known.known c.requires.numbered p_is c.note_longer.ensures.events c.note_longer.ensures.before one_longer
    c.in_ok-push.ensures.items c.args.event.now c.in_ok-known.ensures.before c.in_ok-known.ensures.longer events
    (c.requires.none c.index_mut.result.now p_is)
