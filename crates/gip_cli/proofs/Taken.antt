-- What a word says that is taken, before the others.
use Rattle.std.proofs.Common.{◌≡◌, ℕ, false, List, ◌∷◌, map, string_bytes, subst, sym}
use Rattle.std.specs.Prelude.{Option}
use Rattle.gip_cli.specs.Items.{first_said, items_said, left_behind, left_said, word_said}
use Rattle.gip_cli.specs.Options.{entry_of}
use Rattle.gip_cli.specs.declared.items.Item.{Item}
use Rattle.gip_cli.specs.declared.items.Items.{Items}

pub said-taken : (old new last : Items) (word : List ℕ) (said : Option Item) → old.files ≡ false
    → map string_bytes old.words.now ≡ word ∷ map string_bytes new.words.now → new.table ≡ old.table
    → first_said said (left_said last) ≡ word_said (map entry_of new.table.now) word (left_behind new)
    → left_said old ≡ first_said said (left_said last)
said-taken old new last word said any words table is =
    let same : first_said said (left_said last)
    ≡ word_said (map entry_of old.table.now) word
    (λ mode. items_said (map entry_of old.table.now) mode (map string_bytes new.words.now))
    = subst (λ t. first_said said (left_said last)
    ≡ word_said (map entry_of t.now) word
    (λ mode. items_said (map entry_of t.now) mode (map string_bytes new.words.now))) table is in
    rw (any, words) (sym same)
