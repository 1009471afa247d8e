-- Why `Gathering::push` in src/gathering.rt keeps its clauses `rows` and `indexed`.

use Rattle.std.proofs.Common.{◌≡◌, ◌∙◌, ap, cond, length, map, rules, sym, Some}
use Rattle.std.proofs.lemmas.List.{length-map, map_push}
use Rattle.std.specs.Str.{bytes_eq}
use Rattle.ls_tallies.specs.Places.{kept_place, place_in}
use Rattle.ls_tallies.specs.Plain.{plain_row}
use Rattle.ls_tallies.proofs.Places.{added_new, placed_new}
use Rattle.ls_tallies.proofs.gathering.Gathering.push.Goals as goal

pub returns-clause-rows : goal.returns-clause-rows
returns-clause-rows c =
    let old = c.args.self.now.rows.items in
    ap (map plain_row) c.in_ok-push.ensures.items ∙ map_push plain_row old c.args.row ∙
    sym (added_new (map plain_row old) (plain_row c.args.row) c.requires.new)

pub returns-clause-indexed : goal.returns-clause-indexed
returns-clause-indexed c = λ q.
    let old = c.args.self.now in
    let row = c.args.row in
    let rows = map plain_row old.rows.items in
    let count : c.len.result ≡ length old.rows.items = search rules in
    let more = ap (map plain_row) c.in_ok-push.ensures.items ∙ map_push plain_row old.rows.items row in
    c.in_ok-put_place.ensures q ∙ ap (λ n. cond (bytes_eq row.history.now q) (Some n) (kept_place old.places q))
    (count ∙ sym (length-map old.rows.items plain_row))
    ∙ ap (cond (bytes_eq row.history.now q) (Some (length rows))) (c.requires.indexed q) ∙
    sym (placed_new rows (plain_row row) q c.requires.new)
    ∙ ap (λ rs. place_in rs q) (sym more)
