-- Why `numbers_of_rows` in src/numbers.rt keeps its clause `numbers` and its loop `row`.

use Rattle.std.proofs.Common.{◌≡◌, ◌<◌, ◌∙◌, ap, length, map, rules, string_bytes, subst, sym, take, Some}
use Rattle.std.proofs.lemmas.List.{take_all}
use Rattle.std.proofs.lemmas.Simd.{map-map}
use Rattle.ls_choices.specs.Seen.{row_of}
use Rattle.ls_page.specs.Numbers.{AreNumbers, texts_in}
use Rattle.ls_page.proofs.Numbering.{keeps_all, numbers_more}
use Rattle.ls_page.proofs.numbers.numbers_of_rows.Goals as goal

pub loop-row-preserved : goal.loop-row-preserved
loop-row-preserved c =
    let rows = c.args.rows.now in
    let i = c.loop-row.row-index in
    let row = c.row-item.result in
    let inv = c.loop-row.invariant in
    let old = texts_in c.loop-row.table in
    let new = texts_in c.number.new.self in
    let within : i < length rows = search rules in
    record {
      numbers = numbers_more (λ r. string_bytes r.words) old new rows i row row c.loop-row.numbers.items
          c.push.new.self.items c.in_ok-number.number within (sym c.row-item.is) c.in_ok-push.ensures.items
          c.in_ok-number.ensures.keeps (c.in_ok-number.ensures.there ∙ ap Some c.as_str.ensures.value) inv.numbers;
      keeps = keeps_all (texts_in c.args.table.now) old new inv.keeps c.in_ok-number.ensures.keeps;
    }

pub returns-clause-numbers : goal.returns-clause-numbers
returns-clause-numbers c =
    let rows = c.args.rows.now in
    let table = texts_in c.loop-row.table in
    let all : take c.loop-row.row-index rows ≡ rows = take_all c.loop-row.row-index rows (search rules) in
    subst (AreNumbers table c.loop-row.numbers.items)
    (ap (map (λ r. string_bytes r.words)) all ∙ sym (map-map (λ row. row.words) row_of rows))
    c.loop-row.invariant.numbers
