-- What the shelf and the sink in memory are, and which of their calls fail.
use Rattle.std.specs.Prelude.{ℕ, ◌==◌, ◌||◌, Bool, List, is_none}
use Rattle.std.specs.List.{list_any}
use Rattle.ng_outside.specs.Causes.{raised}
use Rattle.ng_outside.specs.Files.{File, content_of}

-- a shelf in memory: its files, the numbers of the fetches that are to fail, and how many were made and failed
pub record ShelfState : Type 0 where
  pub files : List File
  pub fails : List ℕ
  pub calls : ℕ
  pub faults : ℕ

-- a sink in memory: what it has taken and how many bytes it still takes, the numbers of the puts that are to fail,
-- and how many were made and failed
pub record SinkState : Type 0 where
  pub bytes : List ℕ
  pub left : ℕ
  pub fails : List ℕ
  pub calls : ℕ
  pub faults : ℕ

-- after this many calls the next is one of those that are to fail; the first call has the number 1
abbrev pub is_listed : List ℕ → ℕ → Bool
is_listed fails calls = list_any (λ number. number == raised calls) fails

-- a fetch of this name fails: its number is listed, or no file has the name
abbrev pub fetch_fails : ShelfState → List ℕ → Bool
fetch_fails shelf name = is_listed shelf.fails shelf.calls || is_none (content_of shelf.files name)

-- a put fails: its number is listed, or no room is left
abbrev pub put_fails : SinkState → Bool
put_fails sink = is_listed sink.fails sink.calls || (sink.left == 0)
