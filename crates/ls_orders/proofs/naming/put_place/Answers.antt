-- Why `put_place` in src/naming.rt keeps its contract.

use Rattle.std.proofs.Common.{◌≡◌, ◌∙◌, ◌==◌, ap, sym, cond, rules, None, Some}
use Rattle.std.specs.HashMap.{get_by}
use Rattle.std.specs.Option.{option_copied_mut, option_map_or}
use Rattle.std.specs.Str.{bytes_eq}
use Rattle.std.proofs.lemmas.Map.Text.{hash_map_updates_str}
use Rattle.std.proofs.lemmas.Result.{IfOk-weaker}
use Rattle.ls_orders.specs.Names.{numbered}
use Rattle.ls_orders.proofs.NameLemmas.{Kept, put_in}
use Rattle.ls_orders.proofs.naming.put_place.Goals as goal

pub returns-in-Some : goal.returns-in-Some
returns-in-Some c =
    let thread = c.args.thread.now in
    let number = c.args.number in
    let place = c.args.place in
    let old = c.args.names.now in
    let w = c.put_at.new.places in
    let new = c.get_mut.follows.lender w in
    let f : Kept = λ t. get_by (λ key. bytes_eq t key.now) old in
    let g : Kept = λ t. get_by (λ key. bytes_eq t key.now) new in
    IfOk-weaker c.put_at.result _ _
    (λ v h. put_in f g thread w number place
    (λ k. h k ∙ ap (λ p. cond (number == k) place p) (ap (λ o. option_map_or (λ v. numbered v.items k) o 0)
    c.in-Some.ensures.value))
    (λ q. hash_map_updates_str thread old new (Some w) ((c.get_mut.follows.holds w).3 (search rules)) q))
    c.put_at.ensures

pub returns : goal.returns
returns c =
    let thread = c.args.thread.now in
    let number = c.args.number in
    let place = c.args.place in
    let old = c.args.names.now in
    let new = c.insert.new.self in
    let w = c.in_ok-places.places in
    let f : Kept = λ t. get_by (λ key. bytes_eq t key.now) old in
    let g : Kept = λ t. get_by (λ key. bytes_eq t key.now) new in
    let none : f thread ≡ None = sym c.get_mut.ensures.value ∙ ap option_copied_mut c.in_default.is in
    put_in f g thread w number place
    (λ k. c.in_ok-places.ensures k ∙ ap (λ p. cond (number == k) place p)
    (sym (ap (λ o. option_map_or (λ v. numbered v.items k) o 0) none)))
    (λ q. hash_map_updates_str thread old new (Some w)
    (rw c.get_mut.follows.holds-at-none at c.in_ok-insert.ensures.updates) q)
