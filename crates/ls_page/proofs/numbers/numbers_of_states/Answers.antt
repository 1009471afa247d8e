-- Why `numbers_of_states` in src/numbers.rt keeps its clause `numbers` and its loop `rows`.

use Rattle.std.proofs.Common.{◌≡◌, ◌<◌, ◌∷◌, [], ◌∙◌, ap, length, map, rules, subst, sym, take}
use Rattle.std.proofs.lemmas.List.{map-append, take_all}
use Rattle.std.proofs.lemmas.Simd.{map-map}
use Rattle.ls_choices.specs.Seen.{row_of}
use Rattle.ls_page.specs.Numbers.{AreAllNumbers, AreNumbers, numbers_in, row_words, texts_in}
use Rattle.ls_page.proofs.Numbering.{all_more, keeps_all}
use Rattle.ls_page.proofs.numbers.numbers_of_states.Goals as goal

pub loop-rows-preserved : goal.loop-rows-preserved
loop-rows-preserved c =
    let all = c.args.all.now in
    let i = c.loop-rows.rows-index in
    let rows = c.rows-item.result in
    let inv = c.loop-rows.invariant in
    let old = texts_in c.loop-rows.table in
    let new = texts_in c.numbers_of_rows.new.table in
    let known = c.loop-rows.numbers.items in
    let more = c.in_ok-more.more in
    let within : i < length all = search rules in
    record {
      numbers = all_more (λ v. row_words (map row_of v.items)) old new all i rows rows (numbers_in known)
          (numbers_in c.push.new.self.items) more.items within (sym c.rows-item.is)
          (ap numbers_in c.in_ok-push.ensures.items ∙ map-append (λ v. v.items) known (more ∷ []))
          c.in_ok-more.ensures.keeps
          (subst (λ l. AreNumbers new more.items (row_words (map row_of l))) c.deref.ensures.value
          c.in_ok-more.ensures.numbers)
          inv.numbers;
      keeps = keeps_all (texts_in c.args.table.now) old new inv.keeps c.in_ok-more.ensures.keeps;
    }

pub returns-clause-numbers : goal.returns-clause-numbers
returns-clause-numbers c =
    let all = c.args.all.now in
    let is : take c.loop-rows.rows-index all ≡ all = take_all c.loop-rows.rows-index all (search rules) in
    subst (AreAllNumbers (texts_in c.loop-rows.table) (numbers_in c.loop-rows.numbers.items))
    (ap (map (λ v. row_words (map row_of v.items))) is ∙ sym (map-map row_words (λ v. map row_of v.items) all))
    c.loop-rows.invariant.numbers
