-- A text that is put on a page. Assumes nothing.
use Rattle.std.specs.Prelude.{◌≡◌, ℕ, ◌+◌, ◌≤◌, List, [], ◌++◌, length, take, drop}
use Rattle.lines.specs.declared.page.Page.{Page}

-- the text so far
abbrev pub text : Page → List ℕ
text p = take p.end p.bytes.now

-- the lent bytes behind the text
abbrev pub behind : Page → List ℕ
behind p = drop p.end p.bytes.now

-- how many they are
abbrev pub room : Page → ℕ
room p = length (behind p)

-- no text is put yet, and every lent byte is as it was
pub record StartsIn (lent : List ℕ) (p : Page) : Type 0 where
  pub text : text p ≡ []
  pub behind : behind p ≡ lent

-- so many bytes stand behind the text, or more
abbrev pub HasRoom : Page → List ℕ → Type 0
HasRoom p bs = length bs ≤ room p

-- they are the same lent bytes
abbrev pub SameLender : Page → Page → Type 0
SameLender old new = new.bytes.ghost_name ≡ old.bytes.ghost_name

-- bs is put behind the text; the text before it and the lent bytes further on are as they were
pub record Adds (old : Page) (bs : List ℕ) (new : Page) : Type 0 where
  pub text : text new ≡ text old ++ bs
  pub behind : behind new ≡ drop (length bs) (behind old)
  pub room : length bs + room new ≡ room old
  pub lender : SameLender old new
