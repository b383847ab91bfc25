-- Names for what a claim by computation unfolds: to unfold one of these is to unfold every definition that its line names.
use Rattle.label.specs.Bytes.{bytes, letter, digit, nonzero, admitted, all, run, past, same}
use Rattle.label.specs.Notations.{member, notation}
use Rattle.label.specs.Prefixes.{prefixes, placed, prefix_named, prefix_name}
use Rattle.label.specs.Units.{units, base_power, multiplicity}
use Rattle.label.specs.Symbols.{has_name, row_named, unit_named, follows, cut_by, cuts_from, cuts, known_by, known_among, known_cuts, longer, longest, by_longest, by_cut, by_whole, by_quote, symbol}
use Rattle.label.specs.Rows.{ruled, rules_of, value_among}
use Rattle.label.specs.Parse.{then, mapped, byte, unsigned, digits, after_sign, integer, closed, pointed, bracketed_on, below_one, bracketed_or, bracketed, power, starred, exponent, quoted_on, quoted, lettered, spelling, unit, padded, spaced, joint_at, joint, leading_at, leading, appended, chained, item_at, item_by, more_at, product_at, quotient_on, read, plain_digits, plain_factor, wrapped, starred_factor, ten_factor, ten, factor, ended, one_space, gap, factored, label_by, parse_by, parse_with, parse}
use Rattle.label.specs.Limits.{number_from, number, ratio, exponent_in, exponent_of, k_of, deepest_from, deepest, denominator_among, denominator_of, lowest_terms}
use Rattle.label.specs.Split.{valued_unit, valued_units, valued_with, valued}
use Rattle.label.specs.Reading.{term, every, is_known, is_lawful, is_recommended, base_in, prime_in, total, up_to, dimensions_of, scale_of, refusal, reading_of, unless, check_counts, check_values, check_grammar, checked, answered, reading}
use Rattle.label.specs.Conversion.{unless as convert_unless, same_exponents, over, all_whole, fraction, fraction_of, bounded, converted, conversion}

unfoldable pub symbols_compute : Unit {0}
unfolding bytes letter digit nonzero admitted all run past same member notation prefixes placed prefix_named prefix_name units base_power multiplicity has_name row_named unit_named follows cut_by cuts_from cuts known_by known_among known_cuts longer longest by_longest by_cut by_whole by_quote symbol
symbols_compute = tt

unfoldable pub answers_compute : Unit {0}
unfolding symbols_compute value_among ruled rules_of then mapped byte unsigned digits after_sign integer closed pointed bracketed_on below_one bracketed_or bracketed power starred exponent quoted_on quoted lettered spelling unit padded spaced joint_at joint leading_at leading appended chained item_at item_by more_at product_at quotient_on read plain_digits plain_factor wrapped starred_factor ten_factor ten factor ended one_space gap factored label_by parse_by parse_with parse number_from number ratio exponent_in exponent_of k_of deepest_from deepest denominator_among denominator_of lowest_terms valued_unit valued_units valued_with valued term every is_known is_lawful is_recommended base_in prime_in total up_to dimensions_of scale_of refusal reading_of unless check_counts check_values check_grammar checked answered reading convert_unless same_exponents over all_whole fraction fraction_of bounded converted conversion
answers_compute = tt
