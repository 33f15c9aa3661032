-- All that has to unfold where the meaning of an application that is written out is computed.

-- named on an `unfolding` line, it opens every definition of the language's meaning, and what recursive data is made of
unfoldable pub everything : Unit {0}
unfolding
    denote.Hole.Carrier.out denote.Hole.Carrier.roll denote.Hole.Carrier.shown denote.Hole.Carrier.hidden denote.Hole.Carrier.fold denote.Hole.Rolled.depth
    Rattle.std.specs.Fmt.digits Rattle.std.specs.Str.chars lib.Utf8.encode
    Rattle.ng_values.specs.declared.plain.Plain.TheBlock.the_depth
    Rattle.ng_values.specs.declared.plain.Plain.TheBlock.shown-the_row-Plain-0 Rattle.ng_values.specs.declared.plain.Plain.TheBlock.hidden-the_row-Plain-0
    Rattle.ng_values.specs.declared.plain.Plain.TheBlock.shown-the_row-Plain-Rec-0-2-1 Rattle.ng_values.specs.declared.plain.Plain.TheBlock.hidden-the_row-Plain-Rec-0-2-1
    Rattle.ng_values.specs.declared.plain.Plain.TheViews.out-Plain Rattle.ng_values.specs.declared.plain.Plain.TheViews.roll-Plain
    Rattle.ng_ast.specs.declared.Expr.TheBlock.the_depth
    Rattle.ng_ast.specs.declared.Expr.TheBlock.shown-the_row-Expr-0 Rattle.ng_ast.specs.declared.Expr.TheBlock.hidden-the_row-Expr-0
    Rattle.ng_ast.specs.declared.Expr.TheBlock.shown-the_row-Expr-1 Rattle.ng_ast.specs.declared.Expr.TheBlock.hidden-the_row-Expr-1
    Rattle.ng_ast.specs.declared.Expr.TheBlock.shown-the_row-Expr-Rec-1-2-2 Rattle.ng_ast.specs.declared.Expr.TheBlock.hidden-the_row-Expr-Rec-1-2-2
    Rattle.ng_ast.specs.declared.Expr.TheViews.out-Expr Rattle.ng_ast.specs.declared.Expr.TheViews.roll-Expr
    Rattle.ng_ast.specs.declared.Stmt.TheBlock.the_depth
    Rattle.ng_ast.specs.declared.Stmt.TheBlock.shown-the_row-Stmt-0 Rattle.ng_ast.specs.declared.Stmt.TheBlock.hidden-the_row-Stmt-0
    Rattle.ng_ast.specs.declared.Stmt.TheViews.out-Stmt Rattle.ng_ast.specs.declared.Stmt.TheViews.roll-Stmt
    Rattle.ng_ast.specs.declared.OutletForm.TheBlock.the_depth
    Rattle.ng_ast.specs.declared.OutletForm.TheBlock.shown-the_row-OutletForm-0 Rattle.ng_ast.specs.declared.OutletForm.TheBlock.hidden-the_row-OutletForm-0
    Rattle.ng_ast.specs.declared.OutletForm.TheViews.out-OutletForm Rattle.ng_ast.specs.declared.OutletForm.TheViews.roll-OutletForm
    Rattle.ng_ast.specs.declared.SelPart.TheBlock.the_depth
    Rattle.ng_ast.specs.declared.SelPart.TheBlock.shown-the_row-SelPart-0 Rattle.ng_ast.specs.declared.SelPart.TheBlock.hidden-the_row-SelPart-0
    Rattle.ng_ast.specs.declared.SelPart.TheBlock.shown-the_row-One-1 Rattle.ng_ast.specs.declared.SelPart.TheBlock.hidden-the_row-One-1
    Rattle.ng_ast.specs.declared.SelPart.TheViews.out-SelPart Rattle.ng_ast.specs.declared.SelPart.TheViews.roll-SelPart
    Rattle.ng_ast.specs.declared.TNode.TheBlock.the_depth
    Rattle.ng_ast.specs.declared.TNode.TheBlock.shown-the_row-TNode-0 Rattle.ng_ast.specs.declared.TNode.TheBlock.hidden-the_row-TNode-0
    Rattle.ng_ast.specs.declared.TNode.TheBlock.shown-the_row-Branch-1 Rattle.ng_ast.specs.declared.TNode.TheBlock.hidden-the_row-Branch-1
    Rattle.ng_ast.specs.declared.TNode.TheViews.out-TNode Rattle.ng_ast.specs.declared.TNode.TheViews.roll-TNode
    Rattle.ng_ast.specs.Nodes.node_count Rattle.ng_ast.specs.Nodes.count
    Rattle.ng_tree.specs.declared.PNode.TheBlock.the_depth
    Rattle.ng_tree.specs.declared.PNode.TheBlock.shown-the_row-PNode-0 Rattle.ng_tree.specs.declared.PNode.TheBlock.hidden-the_row-PNode-0
    Rattle.ng_tree.specs.declared.PNode.TheViews.out-PNode Rattle.ng_tree.specs.declared.PNode.TheViews.roll-PNode
    Rattle.ng_selectors.specs.Fits.one_fits Rattle.ng_selectors.specs.Fits.part_fits Rattle.ng_selectors.specs.Fits.fits
    Rattle.ng_selectors.specs.Parse.part Rattle.ng_selectors.specs.Parse.parts Rattle.ng_selectors.specs.Parse.one Rattle.ng_selectors.specs.Parse.negation
    Rattle.ng_selectors.specs.Parse.alternative Rattle.ng_selectors.specs.Parse.alternatives Rattle.ng_selectors.specs.Parse.selector_of
    Rattle.ng_meaning.specs.Expressions.mean Rattle.ng_meaning.specs.Expressions.interpolated
    Rattle.ng_meaning.specs.Template.nodes_from Rattle.ng_meaning.specs.Template.nodes_of
    Rattle.ng_meaning.specs.Places.outlines Rattle.ng_meaning.specs.Places.way
    Rattle.ng_meaning.specs.Init.run_init
    Rattle.ng_meaning.specs.Injection.first_fit Rattle.ng_meaning.specs.Injection.search Rattle.ng_meaning.specs.Injection.provided Rattle.ng_meaning.specs.Injection.resolved
    Rattle.ng_meaning.specs.Projection.slots Rattle.ng_meaning.specs.Projection.slot_of
    Rattle.ng_meaning.specs.Bindings.views_shown
    Rattle.ng_meaning.specs.Passes.grow Rattle.ng_meaning.specs.Passes.pass
    Rattle.ng_meaning.specs.Attributes.attribute_list
    Rattle.ng_meaning.specs.Page.page Rattle.ng_meaning.specs.Page.outlets_met
    Rattle.ng_meaning.specs.Printing.html
    Rattle.ng_meaning.specs.Queries.outlet_order Rattle.ng_meaning.specs.Queries.all_live Rattle.ng_meaning.specs.Queries.found Rattle.ng_meaning.specs.Queries.instances
    Rattle.ng_meaning.specs.Targets.event_way Rattle.ng_meaning.specs.Targets.target Rattle.ng_meaning.specs.Targets.way_listeners
    Rattle.ng_meaning.specs.Events.handle
    Rattle.ng_meaning.specs.Runs.run_with
    Rattle.ng_meaning.specs.Lines.lines Rattle.ng_meaning.specs.Generated.generated_lines
    Rattle.ng_meaning.specs.Operations.live_node
everything = tt
