use Rattle.std.proofs.Common.{◌≡◌, ◌∙◌, ap, ap₂, codes}
use Rattle.std.proofs.lemmas.Result.{IfOk-weaker}
use Rattle.clap.specs.Words.{app_of, new_app, with_rule}
use Rattle.clap.specs.Simple.{app_of_fields}
use Rattle.ng_words.specs.Command.{nameless, command}
use Rattle.ng_words.proofs.command.command.Goals as goal

pub returns : goal.returns
unfolding command
returns c =
    let bare : app_of c.no_binary_name-nameless.result ≡ nameless (new_app (codes "ivy")) = ap app_of_fields c.no_binary_name-nameless.ensures ∙ ap nameless c.new.ensures.app in
    let named : app_of c.in_ok-named.named ≡ _ = c.in_ok-named.ensures.shape c.positional.ensures.own ∙ ap₂ with_rule bare c.positional.ensures.rule in
    let one : app_of c.in_ok-one.one ≡ _ = c.in_ok-one.ensures.shape c.positional-2.ensures.own ∙ ap₂ with_rule named c.positional-2.ensures.rule in
    let two : app_of c.in_ok-two.two ≡ _ = c.in_ok-two.ensures.shape c.positional-3.ensures.own ∙ ap₂ with_rule one c.positional-3.ensures.rule in
    let every : app_of c.in_ok-every.every ≡ _ = c.in_ok-every.ensures.shape c.flag.ensures.own ∙ ap₂ with_rule two c.flag.ensures.rule in
    let ops : app_of c.in_ok-ops.ops ≡ _ = c.in_ok-ops.ensures.shape c.flag-2.ensures.own ∙ ap₂ with_rule every c.flag-2.ensures.rule in
    let report : app_of c.in_ok-report.report ≡ _ = c.in_ok-report.ensures.shape c.flag-3.ensures.own ∙ ap₂ with_rule ops c.flag-3.ensures.rule in
    IfOk-weaker c.arg-7.result _ _ (λ r h. h.shape c.flag-4.ensures.own ∙ ap₂ with_rule report c.flag-4.ensures.rule) c.arg-7.ensures
