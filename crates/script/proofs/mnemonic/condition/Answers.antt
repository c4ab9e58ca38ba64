use Rattle.std.proofs.Common.{rules, tests, ◌≡◌, ◌++◌, ◌∙◌, ap, sym, codes, bytes_eq}
use Rattle.std.proofs.lemmas.Iterator.{YieldsList-from_slice}
use Rattle.std.proofs.lemmas.Iterator.Search.{position_from_yields_List}
use Rattle.std.proofs.lemmas.Iterator.Adapters.{position_from-zero}
use Rattle.script.specs.Names.{condition_of}
use Rattle.script.specs.declared.mnemonic.TheConstants.{CONDITIONS}
use Rattle.script.proofs.mnemonic.condition.Goals.{After-map}
use Rattle.script.proofs.mnemonic.condition.Goals as goal

-- `position` finds the first place whose name stands behind the j, and that place stands beside the name in the definition's list
place : (c : After-map) → c.position.result ≡ condition_of (codes "j" ++ c.in_ok-name.name.now)
place c =
    position_from_yields_List (λ known. bytes_eq c.in_ok-name.name.now known.now) _ _ _ c.position.ensures.ran
    (YieldsList-from_slice _ c.iter.ensures.rest) (λ x b q k. search (rules, tests))
    ∙ position_from-zero (λ known. bytes_eq c.in_ok-name.name.now known.now) CONDITIONS

pub returns : goal.returns
returns c =
    let (n, (one, begins, whole), rest, long) = c.in_ok-name.ensures.cases in
    let placed = place c ∙ ap condition_of (sym (begins ∙ ap (λ name. codes "j" ++ name) (sym rest))) in
    search rules
