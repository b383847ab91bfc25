-- `record::record::put_record` meets its contract: the parts are written one after the other.
use native.Mathlib.Omega.{arith}
use mathlib.Core.Path.{◌≡◌, ap, ◌∙◌}
use lib.ListN.{length}
use Rattle.label.specs.Units.{base_count}
use Rattle.descent.specs.Terms.{count}
use Rattle.content.specs.Sums.{prime_count}
use Rattle.content.specs.Views.{terms_in}
use Rattle.record.specs.Record.{terms_fields, record_size}
use Rattle.record.proofs.Joining.{joined_is, cleared, fields_are}
use Rattle.record.proofs.record.put_record.Goals as goal

pub returns : goal.returns
returns c =
    λ s w.
    let k = c.args.content.now in
    let n = count k.terms in
    let bases : length k.sums.bases ≡ base_count = omega arith in
    let primes : length k.sums.primes ≡ prime_count = omega arith in
    let room : length c.put_all-3.new.b ≡ record_size = c.put_all-3.auto.b ∙ c.put_all-2.auto.b ∙ c.clear.auto.b ∙ c.put_terms.auto.b ∙ c.put_all.auto.b ∙ c.requires.0 in
    joined_is
    c.head_fields-head.result (terms_fields (terms_in s k.terms k.symbols n)) k.sums.bases k.sums.primes n c.args.b.now c.put_all.new.b c.put_terms.new.b c.clear.new.b c.put_all-2.new.b c.put_all-3.new.b
    (ap length c.head_fields-head.ensures) bases primes room
    c.put_all.ensures (c.put_terms.ensures s w) (cleared c.put_terms.new.b c.clear.new.b n c.requires.1.few c.clear.ensures) c.put_all-2.ensures c.put_all-3.ensures
    ∙ fields_are s c.args.number k c.args.a primes c.head_fields-head.ensures
