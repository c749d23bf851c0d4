use mathlib.Core.Path.{◌≡◌, ◌∙◌}
use native.Mathlib.Omega.{arith}
use borrow.Author.Rules.{rules}
use borrow.Author.Tests.{tests}
use lib.ListN.{get_or}
use Rattle.std.proofs.lemmas.List.{get_or_default}
use Rattle.functions.specs.Rules.{rule_of}
use Rattle.functions.specs.declared.Rule.TheVariants.{Any}
use Rattle.ast.specs.Opens.{file_in}
use Rattle.definitions.specs.Names.{text_of}
use Rattle.builder.proofs.laws.Open.{names_long}
use Rattle.builder.proofs.names.rules.Goals as goal

pub returns : goal.returns
unfolding text_of
returns c = let v = c.args.file.now in
    let long = names_long v.bytes.now v.sections in
    let few = v.opened.laid.within.names in
    let e = c.by_name.ensures in
    record {
      rule = λ n d l.
          let p = e.1 n (omega (arith, long, l)) in
          let q : get_or c.by_name.result n Any ≡ rule_of (text_of (file_in v.bytes.now v.sections).names n) = search (rules, tests) in
          get_or_default c.by_name.result n d Any (omega (arith, e.0, long, few, l)) ∙ q;
    }
