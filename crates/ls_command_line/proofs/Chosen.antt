-- What the matches of a subcommand ask for.
use Rattle.std.proofs.Common.{◌≡◌, ap, refl, true≢false, List, [], Option, Some, None}
use Rattle.std.specs.Prelude.{is_some, option_map, unwrap_or}
use Rattle.clap.specs.Words.{Row, Text}
use Rattle.ls_command_line.specs.Words.{asked_by}

-- a subcommand with this name and these rows is asked by them
pub asked_so : {X : Type 0} (f : X → Text) (g : X → List Row) (o : Option X) (name : Text) (rows : List Row)
    → Some name ≡ option_map f o
    → Some rows ≡ option_map (λ (p : Text × List Row). p.1) (option_map (λ b. (f b, g b)) o)
    → asked_by (Some (name, rows)) ≡ asked_by (option_map (λ b. (f b, g b)) o)
asked_so f g None name rows a b = absurd (true≢false (ap is_some a))
asked_so f g (Some x) name rows a b =
    let n : name ≡ f x = ap (λ o. unwrap_or o []) a in
    let r : rows ≡ g x = ap (λ o. unwrap_or o []) b in
    rw (n, r) refl
