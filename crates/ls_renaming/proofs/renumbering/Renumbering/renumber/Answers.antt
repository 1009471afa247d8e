-- Why `Renumbering::renumber` in src/renumbering.rt keeps its clause `there` and what `renumber_works` requires.

use Rattle.std.proofs.Common.{rules, ◌≡◌, ℕ, IsTrue, Option, Vec, Global, length, subst}
use Rattle.std.specs.Prelude.{IfSome}
use Rattle.ls_transitions.specs.Tables.{Table}
use Rattle.ls_transitions.specs.Seen.{table_of}
use Rattle.ls_transitions.proofs.Keeping.{still_below}
use Rattle.ls_renaming.specs.Seen.{names_of}
use Rattle.ls_renaming.specs.Renumbered.{AreWorksThere, IsStoreThere}
use Rattle.ls_renaming.proofs.Works.{store_stays}
use Rattle.ls_renaming.proofs.renumbering.Renumbering.renumber.Goals as goal

pub renumber_works-requires : goal.renumber_works-requires
renumber_works-requires c = λ place work e.
    still_below (table_of c.args.transitions.now).works (table_of c.renumber_store.new.transitions).works work
    c.renumber_store.ensures.grows.works (c.requires.works place work e)

pub returns-clause-there : goal.returns-clause-there
returns-clause-there c =
    let t : Table = table_of c.renumber_store.new.transitions in
    let t' : Table = table_of c.renumber_works.new.transitions in
    let names : ℕ → ℕ = names_of c.both_ways-both.result.names in
    let apart : IsTrue c.are_apart.result = search rules in
    record {
      names = names;
      renaming = c.are_apart.ensures apart;
      store_there = store_stays t t' names c.args.store c.in-Some.store c.renumber_works.ensures.grows
          (subst (λ (o : Option ℕ). IfSome o (λ n. IsStoreThere t names c.args.store n)) c.in-Some.is
          c.in_ok-store.ensures.there);
      width = subst (λ (o : Option (Vec ℕ Global)). IfSome o (λ v. length v.items ≡ length c.args.works.now))
          c.in-Some-2.is c.in_ok-works.ensures.width;
      works_there = subst (λ (o : Option (Vec ℕ Global)).
          IfSome o (λ v. AreWorksThere t' names c.args.works.now v.items))
          c.in-Some-2.is c.in_ok-works.ensures.there;
    }
