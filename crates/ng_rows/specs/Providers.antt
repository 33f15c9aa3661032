-- Providers for a view and for content.
use Rattle.std.specs.Prelude.{[], ◌∷◌, pos, false, Some, None, codes}
use Rattle.ng_values.specs.declared.value.Value.TheVariants as val
use Rattle.ng_ast.specs.declared.App.{App}
use Rattle.ng_ast.specs.declared.Expr.TheVariants as expr
use Rattle.ng_ast.specs.declared.Piece.TheVariants as piece
use Rattle.ng_ast.specs.declared.TNode.TheVariants as node
use Rattle.ng_ast.specs.declared.Provider.TheVariants as provider
use Rattle.ng_ast.specs.declared.MemberKind.TheVariants as kind
use Rattle.ng_ast.specs.declared.Decl.TheVariants as decl
use Rattle.ng_ast.specs.declared.Flag.TheVariants as flag
use Rattle.ng_rows.specs.Build.{at, one, selector, member, component, service, environment}

-- one token that two components provide:
--     token T;
--     component H {
--       selector 'h-h';
--       viewprovide T = 1;
--       template `<k-k></k-k><ng-content></ng-content>`;
--     }
--     component K {
--       selector 'k-k';
--       inject t = T optional;
--       template `{{ t }}`;
--     }
--     component L {
--       selector 'l-l';
--       inject t = T optional host;
--       template `{{ t }}`;
--     }
--     component R {
--       selector 'r-r';
--       provide T = 2;
--       template `<h-h><k-k></k-k><l-l></l-l></h-h>`;
--     }
--     bootstrap R;
abbrev pub view_provider : App
view_provider = record {
  decls =
      decl.Token (at 1 1 0) (codes "T")
      ∷ decl.Component
      (component (at 2 1 9) (codes "H") (selector (one (Some (codes "h-h")) [] ∷ [])) false
      (member (at 4 3 43) [] (kind.ViewProvide (provider.Constant (codes "T") (val.Int (pos 1)))) ∷ []) (at 5 13 74)
      (node.Element (at 5 13 74) (codes "k-k") [] [] ∷ node.Element (at 5 24 85) (codes "ng-content") [] [] ∷ []))
      ∷ decl.Component
      (component (at 7 1 115) (codes "K") (selector (one (Some (codes "k-k")) [] ∷ [])) false
      (member (at 9 3 149) (codes "t") (kind.Inject (codes "T") (flag.Optional ∷ [])) ∷ []) (at 10 13 184)
      (node.Text (at 10 13 184) (piece.Value (at 10 13 184) (expr.Name (at 10 16 187) (codes "t")) ∷ []) ∷ []))
      ∷ decl.Component
      (component (at 12 1 196) (codes "L") (selector (one (Some (codes "l-l")) [] ∷ [])) false
      (member (at 14 3 230) (codes "t") (kind.Inject (codes "T") (flag.Optional ∷ flag.Host ∷ [])) ∷ []) (at 15 13 270)
      (node.Text (at 15 13 270) (piece.Value (at 15 13 270) (expr.Name (at 15 16 273) (codes "t")) ∷ []) ∷ []))
      ∷ decl.Component
      (component (at 17 1 282) (codes "R") (selector (one (Some (codes "r-r")) [] ∷ [])) false
      (member (at 19 3 316) [] (kind.Provide (provider.Constant (codes "T") (val.Int (pos 2)))) ∷ []) (at 20 13 343)
      (node.Element (at 20 13 343) (codes "h-h") []
      (node.Element (at 20 18 348) (codes "k-k") [] [] ∷ node.Element (at 20 29 359) (codes "l-l") [] [] ∷ [])
      ∷ []))
      ∷ decl.Bootstrap (at 22 1 381) (codes "R") None
      ∷ [];
}

-- a token that leads to another one, and an environment:
--     token T;
--     token U;
--     service S {
--       field n = 1;
--     }
--     environment E {
--       provide U = 5;
--     }
--     component C {
--       selector 'c-c';
--       provide S;
--       viewprovide T from S;
--       inject s = S self;
--       template `<k-k></k-k>`;
--     }
--     component K {
--       selector 'k-k';
--       inject t = T;
--       inject u = U;
--       inject s = S skipself host optional;
--       template `{{ t.n }}{{ u }}`;
--     }
--     component R {
--       selector 'r-r';
--       template `<c-c></c-c>`;
--     }
--     bootstrap R in E;
abbrev pub aliases : App
aliases = record {
  decls =
      decl.Token (at 1 1 0) (codes "T")
      ∷ decl.Token (at 2 1 9) (codes "U")
      ∷ decl.Service (service (at 3 1 18) (codes "S") false (member (at 4 3 32) (codes "n") (kind.Field (val.Int (pos 1))) ∷ []))
      ∷ decl.Environment (environment (at 6 1 47) (codes "E") None (((at 7 3 65), provider.Constant (codes "U") (val.Int (pos 5))) ∷ []))
      ∷ decl.Component
      (component (at 9 1 82) (codes "C") (selector (one (Some (codes "c-c")) [] ∷ [])) false
      (member (at 11 3 116) [] (kind.Provide (provider.Plain (codes "S"))) ∷ member (at 12 3 129) [] (kind.ViewProvide (provider.From (codes "T") (codes "S"))) ∷ member (at 13 3 153) (codes "s") (kind.Inject (codes "S") (flag.Own ∷ [])) ∷ []) (at 14 13 184)
      (node.Element (at 14 13 184) (codes "k-k") [] [] ∷ []))
      ∷ decl.Component
      (component (at 16 1 200) (codes "K") (selector (one (Some (codes "k-k")) [] ∷ [])) false
      (member (at 18 3 234) (codes "t") (kind.Inject (codes "T") []) ∷ member (at 19 3 250) (codes "u") (kind.Inject (codes "U") []) ∷ member (at 20 3 266) (codes "s") (kind.Inject (codes "S") (flag.Skip ∷ flag.Host ∷ flag.Optional ∷ [])) ∷ []) (at 21 13 315)
      (node.Text (at 21 13 315) (piece.Value (at 21 13 315) (expr.Member (at 21 16 318) (expr.Name (at 21 16 318) (codes "t")) (codes "n")) ∷ piece.Value (at 21 22 324) (expr.Name (at 21 25 327) (codes "u")) ∷ []) ∷ []))
      ∷ decl.Component
      (component (at 23 1 336) (codes "R") (selector (one (Some (codes "r-r")) [] ∷ [])) false
      [] (at 25 13 380)
      (node.Element (at 25 13 380) (codes "c-c") [] [] ∷ []))
      ∷ decl.Bootstrap (at 27 1 396) (codes "R") (Some (codes "E"))
      ∷ [];
}
