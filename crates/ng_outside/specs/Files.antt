-- Files in memory: pairs of a name and bytes.
use Rattle.std.specs.Prelude.{ℕ, List, [], Option, unwrap_or, find, bytes_eq, string_bytes, String, Vec}
use Rattle.std.specs.Option.{option_map}
use Rattle.std.specs.declared.alloc.Global.{Global}

-- a name and its bytes
abbrev pub File : Type 0
File = String Global × Vec ℕ Global

-- the content of the first file of this name, if there is one
abbrev pub content_of : List File → List ℕ → Option (List ℕ)
content_of files name = option_map (λ file. file.1.items) (find (λ file. bytes_eq (string_bytes file.0) name) files)

-- the content of the first file of this name, or nothing
abbrev pub told_surely : List File → List ℕ → List ℕ
told_surely files name = unwrap_or (content_of files name) []
