-- Why `Gathering::join` in src/gathering.rt keeps its contract and what it calls with.

use Rattle.std.proofs.Common.{◌≡◌, ◌∙◌, ap, arith, length, rules, set, sym, vec_len}
use Rattle.std.proofs.lemmas.List.{map-set}
use Rattle.ls_tallies.specs.Places.{place_in, rows_of}
use Rattle.ls_tallies.specs.Plain.{plain_row}
use Rattle.ls_tallies.specs.Tallies.{joined, Row}
use Rattle.ls_tallies.proofs.Places.{added_known, count_within, placed_known}
use Rattle.ls_tallies.proofs.Sorted.{got, within}
use Rattle.ls_tallies.proofs.gathering.Gathering.join.Goals as goal

pub index-requires : goal.index-requires
index-requires c =
    let r = plain_row c.args.row in
    let lt = within plain_row c.args.self.now.rows.items c.args.place
    (added_known (rows_of c.args.self.now) r c.args.place r c.requires.there).0 in
    let len : vec_len c.args.self.now.rows ≡ length c.args.self.now.rows.items = search rules in
    omega (arith, lt, len)

pub joined-requires : goal.joined-requires
joined-requires c =
    let items = c.args.self.now.rows.items in
    let e = c.index.result.now in
    let known = added_known (rows_of c.args.self.now) (plain_row c.args.row) c.args.place (plain_row e) c.requires.there
    in
    let lt = within plain_row items c.args.place known.0 in
    let at = got plain_row items c.args.place (plain_row e) e lt ∙ ap plain_row (sym c.index.ensures) in
    let low = count_within (rows_of c.args.self.now) c.args.place (plain_row e) known.0 in
    let same = ap (λ (x : Row). x.count) at in
    omega (arith, low, same, c.requires.fits)

pub index_mut-requires : goal.index_mut-requires
index_mut-requires c =
    let r = plain_row c.args.row in
    let lt = within plain_row c.args.self.now.rows.items c.args.place
    (added_known (rows_of c.args.self.now) r c.args.place r c.requires.there).0 in
    let len : vec_len c.args.self.now.rows ≡ length c.args.self.now.rows.items = search rules in
    omega (arith, lt, len)

pub returns-clause-rows : goal.returns-clause-rows
returns-clause-rows c =
    let items = c.args.self.now.rows.items in
    let rows = rows_of c.args.self.now in
    let r = plain_row c.args.row in
    let place = c.args.place in
    let e = c.index.result.now in
    let known = added_known rows r place (plain_row e) c.requires.there in
    let lt = within plain_row items place known.0 in
    let at = got plain_row items place (plain_row e) e lt ∙ ap plain_row (sym c.index.ensures) in
    map-set plain_row items place c.joined.result ∙ ap (set rows place)
    (c.joined.ensures ∙ ap (λ (x : Row). joined x r) (sym at)) ∙ sym known.1

pub returns-clause-indexed : goal.returns-clause-indexed
returns-clause-indexed c = λ q.
    let items = c.args.self.now.rows.items in
    let rows = rows_of c.args.self.now in
    let r = plain_row c.args.row in
    let place = c.args.place in
    let e = c.index.result.now in
    let known = added_known rows r place (plain_row e) c.requires.there in
    let lt = within plain_row items place known.0 in
    let at = got plain_row items place (plain_row e) e lt ∙ ap plain_row (sym c.index.ensures) in
    let after = map-set plain_row items place c.joined.result ∙
    ap (set rows place) (c.joined.ensures ∙ ap (λ (x : Row). joined x r) (sym at)) ∙ sym known.1 in
    c.requires.indexed q ∙ sym (placed_known rows r q place c.requires.there) ∙ ap (λ rs. place_in rs q) (sym after)
