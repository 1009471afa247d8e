-- Why `quoted_reads_back` in src/quoted.rt keeps its clauses `safe` and `back`.

use Rattle.std.proofs.Common.{◌∙◌, ◌∷◌, ◌++◌, [], chars, flat_map, append_assoc, append-nil, refl, subst}
use Rattle.std.proofs.lemmas.List.Folds.{list_all-append}
use Rattle.std.proofs.lemmas.Str.{encodes-chars}
use lib.Utf8.{encodes}
use Rattle.ls_page.specs.Laws.{is_safe}
use Rattle.ls_page.specs.Quoted.{escaped}
use Rattle.ls_page.specs.Strings.{Closes, Inside, Opens}
use Rattle.ls_page.proofs.Characters.{all_safe, reads_all}
use Rattle.ls_page.proofs.quoted.quoted_reads_back.Goals as goal

pub returns-clause-safe : goal.returns-clause-safe
returns-clause-safe c = λ text. rw (
  list_all-append is_safe (flat_map escaped (chars text)) (34 ∷ []),
  all_safe (chars text),
) refl

pub returns-clause-back : goal.returns-clause-back
returns-clause-back c = λ text rest utf8.
    let written = flat_map escaped (chars text) in
    rw (append_assoc written (34 ∷ []) rest)
    (Opens (written ++ 34 ∷ rest) text rest
    (subst (λ t. Inside (written ++ 34 ∷ rest) t rest) (append-nil (encodes (chars text)) ∙ encodes-chars text utf8)
    (reads_all (chars text) (34 ∷ rest) [] rest (Closes rest))))
