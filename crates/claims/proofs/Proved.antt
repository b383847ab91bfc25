-- The claims, proved: each is a citation.
use Rattle.label.proofs.SamplesHold.{samples_hold}
use Rattle.label.proofs.Cuts.{at_most_one}
use Rattle.label.proofs.Derivations.{derived_parsed, parsed_derived, refused_underived, underived_refused, same_derivation}
use Rattle.label.proofs.Readings.{number_refused, number_accepted, accepted_gives, same_split}
use Rattle.label.proofs.Meanings.{refused_empty, of_its_terms, known_every, lawful_every, recommended_every, dimensions_sum, scale_sum}
use Rattle.label.proofs.AsWritten.{exponents_written}
use Rattle.label.proofs.Bounds.{bounds_kept}
use Rattle.label.proofs.Sources.{rewriting_content, rewriting_again}
use Rattle.label.proofs.Formed.{refusals_are_due, refuses_answered, never_twelve}
use Rattle.label.proofs.Refusing.{fourteen_due, earlier_due}
use Rattle.label.specs.Samples.{SamplesHold}
use Rattle.claims.proofs.Longest as longest
use Rattle.claims.proofs.NameTests as names
use Rattle.claims.proofs.Lowest.{lowest}
use Rattle.claims.proofs.Sixtieths.{whole_divides, divides_whole}
use Rattle.claims.specs.Claims.{ParseIsTheGrammar, ParseRefusesTheRest, Unambiguous, RefusalsAreTheConditions, BoundsAreKept, ZeroDecimalsRefused, ZeroDecimalsAlone, RefusalsAreEmpty, ZeroIsAcceptance, AcceptedContent, ExponentsAsWritten, AnswersComeFromTheTerms, KnownVerdict, LawfulVerdict, RecommendedVerdict, DimensionsAreSums, ScaleIsASum, AtMostOneKnownRest, StarlinkSymbols, SixtiethsAreTheBound, ShownInLowestTerms, GrammarsAgree, NotationsAgree, RewrittenReadsAsTheSame, RewritingRefusals, RefusedRewritesAreEmpty, FourteenIsAShortBuffer, EarlierWhateverTheBuffer, OwnNotationHasForms, RewrittenOnceForAll, StarlinkWriting, MalformedLines, OtherLines, NamesFit, NamesDiffer, NamesAreLetters, NamesForAll, WordsTellApart, PlainWords, WordsRefusals, FourteenIfTheWordsAreLonger, SevenOrFourteen, WordsWithZero, NoWordsWithOthers, WordsAreShort, LongestWordsAreMet, RoomForAllWords, WordSamples}
use Rattle.claims.proofs.Conversions.{factor_once}
use Rattle.claims.proofs.ConversionAnswers.{gives_converts, number_due, due_refused, zero_undue}
use Rattle.claims.proofs.Inverses.{converts_itself, converts_inverse}
use Rattle.claims.proofs.Bounds as bounds
use Rattle.claims.proofs.ConversionLimits as limits
use Rattle.claims.proofs.Sizings as sizings
use Rattle.claims.proofs.Lines as lines
use Rattle.claims.proofs.SpokenSamples as spoken
use Rattle.claims.proofs.StarlinkHolds as starlink
use Rattle.claims.proofs.TellApart as apart
use Rattle.claims.proofs.Speaking as speaking
use Rattle.claims.proofs.ZeroPowers as zeros
use Rattle.claims.specs.Sizing.{SizesGiveTheFactor, FractionExactlyIf}
use Rattle.claims.specs.Converting.{OneFactor, ConvertsExactlyIf, ConversionRefusals, RefusedConversions, ConversionSucceeds, ItselfByOne, BackByTheInverse, WithinLimits, ExponentsBounded, RatiosBounded}

pub parse_is_the_grammar : ParseIsTheGrammar
parse_is_the_grammar n s f ps = ((λ h. parsed_derived n s f ps h), (λ d. derived_parsed d))

pub parse_refuses_the_rest : ParseRefusesTheRest
parse_refuses_the_rest n s = ((λ h. refused_underived n s h), (λ h. underived_refused n s h))

pub unambiguous : Unambiguous
unambiguous n s f g ps qs d e = same_derivation d e

pub refusals_are_the_conditions : RefusalsAreTheConditions
refusals_are_the_conditions n s i l = number_refused n s i l

pub bounds_are_kept : BoundsAreKept
bounds_are_kept f ps = bounds_kept f ps

pub zero_decimals_refused : ZeroDecimalsRefused
zero_decimals_refused n s f ps d p m z = zeros.zero_decimals_refused n s f ps d p m z

pub zero_decimals_alone : ZeroDecimalsAlone
zero_decimals_alone n s f ps d p m = zeros.zero_decimals_alone n s f ps d p m

pub refusals_are_empty : RefusalsAreEmpty
refusals_are_empty n s i d = refused_empty d

pub zero_is_acceptance : ZeroIsAcceptance
zero_is_acceptance n s = number_accepted n s

pub accepted_content : AcceptedContent
accepted_content n s x a = accepted_gives a

pub exponents_as_written : ExponentsAsWritten
exponents_as_written n s x a = exponents_written n s x a

pub answers_come_from_the_terms : AnswersComeFromTheTerms
answers_come_from_the_terms n s q = of_its_terms n s q

pub known_verdict : KnownVerdict
known_verdict n s q = known_every n s q

pub lawful_verdict : LawfulVerdict
lawful_verdict n s q = lawful_every n s q

pub recommended_verdict : RecommendedVerdict
recommended_verdict n s q = recommended_every n s q

pub dimensions_are_sums : DimensionsAreSums
dimensions_are_sums n s q = dimensions_sum n s q

pub scale_is_a_sum : ScaleIsASum
scale_is_a_sum n s q p h = scale_sum n s q p h

pub at_most_one_known_rest : AtMostOneKnownRest
at_most_one_known_rest n e l = at_most_one n e l

pub starlink_symbols : StarlinkSymbols
starlink_symbols = starlink.starlink_symbols

pub sixtieths_are_the_bound : SixtiethsAreTheBound
sixtieths_are_the_bound r p q w = ((λ e. whole_divides r p q w e), (λ d. divides_whole r p q w d))

pub shown_in_lowest_terms : ShownInLowestTerms
shown_in_lowest_terms e = lowest e

pub grammars_agree : GrammarsAgree
grammars_agree n m s f g ps qs d e = same_derivation d e

pub notations_agree : NotationsAgree
notations_agree n m s x y a b = (same_split a b, accepted_gives a, rw (same_split a b) (accepted_gives b))

-- P1 to P12: one table, one claim (the crate label, specs/Samples.antt)
pub samples : SamplesHold
samples = samples_hold

pub rewritten_reads_as_the_same : RewrittenReadsAsTheSame
rewritten_reads_as_the_same n s m h = rewriting_content n s m h

pub rewriting_refusals : RewritingRefusals
rewriting_refusals n s m i l = refusals_are_due n s m i l

pub refused_rewrites_are_empty : RefusedRewritesAreEmpty
refused_rewrites_are_empty n s m i d = refuses_answered n s m d

pub fourteen_is_a_short_buffer : FourteenIsAShortBuffer
fourteen_is_a_short_buffer size n s m = fourteen_due size n s m

pub earlier_whatever_the_buffer : EarlierWhateverTheBuffer
earlier_whatever_the_buffer size n s m i l h = earlier_due size n s m i l h

pub own_notation_has_forms : OwnNotationHasForms
own_notation_has_forms n s h = never_twelve n s h

pub rewritten_once_for_all : RewrittenOnceForAll
rewritten_once_for_all n s m h = rewriting_again n s m h

pub starlink_writing : StarlinkWriting
starlink_writing = starlink.starlink_writing

-- DEMAND 2, CONVERTING

pub one_factor : OneFactor
one_factor r q n d x y k l f g = factor_once f g

pub converts_exactly_if : ConvertsExactlyIf
converts_exactly_if n s m t x y k = gives_converts n s m t x y k

pub conversion_refusals : ConversionRefusals
conversion_refusals n s m t i h = number_due n s m t i h

pub refused_conversions : RefusedConversions
refused_conversions n s m t i d = due_refused n s m t d

pub conversion_succeeds : ConversionSucceeds
conversion_succeeds n s m t = zero_undue n s m t

pub itself_by_one : ItselfByOne
itself_by_one n s c u = converts_itself n s c u

pub back_by_the_inverse : BackByTheInverse
back_by_the_inverse n s m t x y k e = converts_inverse n s m t x y k e

pub within_limits : WithinLimits
within_limits n s m t = limits.within_limits n s m t

pub exponents_bounded : ExponentsBounded
exponents_bounded n s = bounds.exponents_bounded n s

pub ratios_bounded : RatiosBounded
ratios_bounded n s m t p w h g = bounds.ratios_bounded n s m t p w h g

pub sizes_give_the_factor : SizesGiveTheFactor
sizes_give_the_factor r q n d k = sizings.sizes_give_the_factor r q n d k

pub fraction_exactly_if : FractionExactlyIf
fraction_exactly_if r q = sizings.fraction_exactly_if r q

pub malformed_lines : MalformedLines
malformed_lines s h = lines.malformed_lines s h

pub other_lines : OtherLines
other_lines s h e = lines.other_lines s h e

-- WORDS

pub names_fit_proved : NamesFit
names_fit_proved = spoken.spoken_names_pass

pub names_differ : NamesDiffer
names_differ i j h g e = names.names_differ i j h g e

pub names_are_letters : NamesAreLetters
names_are_letters w h = names.names_are_letters w h

pub names_for_all : NamesForAll
names_for_all = names.names_for_all

pub words_tell_apart : WordsTellApart
words_tell_apart n m s t a b = apart.told_apart n m s t a b

pub plain_words : PlainWords
plain_words n s z w h = apart.plain_words n s z w h

pub words_refusals : WordsRefusals
words_refusals size n s i l h = speaking.refusals_of_reading size n s i l h

pub fourteen_if_the_words_are_longer : FourteenIfTheWordsAreLonger
fourteen_if_the_words_are_longer size n s = speaking.fourteen_if_longer size n s

pub seven_or_fourteen : SevenOrFourteen
seven_or_fourteen size n s = speaking.seven_or_fourteen size n s

pub words_with_zero : WordsWithZero
words_with_zero size n s z = speaking.words_with_zero size n s z

pub no_words_with_others : NoWordsWithOthers
no_words_with_others size n s h = speaking.no_words_with_others size n s h

pub words_are_short : WordsAreShort
words_are_short n s z = longest.spoken_short n s z

pub longest_words_are_met : LongestWordsAreMet
longest_words_are_met = (3, longest.longest_label, longest.longest_accepted, longest.longest_spoken)

pub room_for_all_words : RoomForAllWords
room_for_all_words size n s h = longest.never_short n s size h

pub word_samples : WordSamples
word_samples = spoken.word_samples
