-- What the tag of a buffer's entry says.
--   Says k g    the tag g is that of an entry of the kind k
-- Assumes nothing.
use Rattle.std.specs.Prelude.{ℕ, ◌-◌, ◌<◌, ◌≤◌, ◌≡◌}
use Rattle.search.specs.declared.kinds.Kind.{Kind}
use Rattle.search.specs.declared.kinds.Kind.TheVariants.{Store, Flush, FlushOpt, Sfence}
use Rattle.search.specs.Sizes.{flush_tag, flush_opt_tag, sfence_tag}

abbrev pub Says : Kind → ℕ → Type 0
Says (Store l) g = (g < flush_tag) × (l.0 ≡ g)
Says (Flush l) g = (flush_tag ≤ g) × (g < flush_opt_tag) × (l.0 ≡ g - flush_tag)
Says (FlushOpt l) g = (flush_opt_tag ≤ g) × (g < sfence_tag) × (l.0 ≡ g - flush_opt_tag)
Says Sfence g = sfence_tag ≤ g
