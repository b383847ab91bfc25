-- Names for what a claim about whole columns unfolds: to unfold one of these is to unfold every definition that its line names.
use Rattle.label.proofs.Computing.{symbols_compute}
use Rattle.symbols.specs.Keys.{key_from}
use Rattle.symbols.specs.Sets.{bits}
use Rattle.symbols.specs.Names.{entries_of, entries_from, names}
use Rattle.symbols.specs.Slots.{four_each}
use Rattle.symbols.specs.Columns.{name_keys, name_codes, prefix_codes, prefix_powers}
use Rattle.symbols.specs.Columns.{unit_prefixed, unit_recommended, unit_bases, unit_powers, unit_primes}

unfoldable pub names_compute : Unit {0}
unfolding symbols_compute key_from bits entries_of entries_from names name_keys name_codes
names_compute = tt

unfoldable pub columns_compute : Unit {0}
unfolding names_compute four_each prefix_codes prefix_powers unit_prefixed unit_recommended unit_bases unit_powers unit_primes
columns_compute = tt
