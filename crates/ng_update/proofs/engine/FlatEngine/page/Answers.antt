use Rattle.std.proofs.Common.{[], ◌++◌, sym, ap, ◌∙◌}
use Rattle.ng_semantics.specs.Template.{nesting}
use Rattle.ng_semantics.specs.Html.{html, start_tag, end_tag}
use Rattle.ng_update.specs.Fields.{world_of}
use Rattle.ng_update.specs.Printed.{printed}
use Rattle.ng_update.specs.Running.{Running, page_of}
use Rattle.ng_update.proofs.Pages.{html_page}
use Rattle.ng_update.proofs.engine.FlatEngine.page.Goals as goal

pub returns : goal.returns
returns c =
    let tag = c.root_tag-tag.result.now in
    let inner = printed nesting (world_of c.as_slice.result.now) c.as_slice-nodes.result.now in
    c.in_ok-write_end.ensures
    ∙ ap (λ xs. xs ++ end_tag tag) (c.in_ok-write_nodes.ensures ∙ ap (λ xs. xs ++ inner) (c.in_ok-write_start.ensures ∙ ap (λ xs. xs ++ start_tag tag []) c.new-out.ensures.items))
    ∙ (λ j. start_tag (c.root_tag-tag.ensures j) [] ++ printed nesting (world_of (c.as_slice.ensures.value j)) (c.as_slice-nodes.ensures j) ++ end_tag (c.root_tag-tag.ensures j))
    ∙ sym (html_page c.self.inside.component (world_of c.self.inside.fields.items) c.self.invariant.first)
    ∙ ap (λ (r : Running). html (page_of r)) c.self.view_is
