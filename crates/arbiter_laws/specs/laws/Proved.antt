-- Request E14, proved.
use Rattle.std.proofs.Common.{subst}
use Rattle.std.specs.Prelude.{ℕ, ◌<◌, [], ◌∷◌, replicate}
use Rattle.arbiter_laws.specs.definitions.Fair.{run, grants, Within, Needs, alone, everybody, bound}
use Rattle.arbiter_laws.specs.definitions.Sharing.{Sharing, Fair}
use Rattle.arbiter_laws.specs.laws.Granted.{is_granted_lem, to_requester, idle_stays, after_high, after_low}
use Rattle.arbiter_laws.specs.laws.Fairness.{grants_append, every_set, fair, fair_onwards, within_in, within_least, least_high}
use Rattle.arbiter_laws.specs.laws.Met.{met, bound_met}
use Rattle.arbiter_laws.specs.laws.Called.{no_bit, no_bits, accepted_is, is_accepted, refusal_is, member_is, state_is, stays, first_accepted, calls_fair}

is_fair : (mask m : ℕ) → m < 10 → Fair mask m
is_fair mask m hm =
    record {
      every = λ s list. every_set mask m hm list s;
      within = λ s list keeps. fair mask m hm list s keeps;
      among = λ s list keeps few. within_in m (grants mask s list) (bound mask m) (fair mask m hm list s keeps) few;
      onwards = fair_onwards mask m hm;
      calls = calls_fair mask m hm;
      met = bound_met mask m hm;
      all_high = λ h s list keeps.
          subst (λ (n : ℕ). Within n m (grants mask s list)) (least_high mask m hm h) (within_least mask m hm list s keeps);
      all_high_met = λ h.
          subst (λ (n : ℕ). Needs n mask (run mask (alone m ∷ [])) m (replicate n everybody)) (least_high mask m hm h) (met mask m hm);
    }

pub sharing : Sharing
sharing =
    record {
      granted = λ mask requests s. record {
        somebody = is_granted_lem mask requests s;
        requester = to_requester mask requests s;
        idle = idle_stays mask requests s;
        high = after_high mask requests s;
        low = after_low mask requests s;
      };
      called = λ mask requests s. record {
        refusal = refusal_is mask requests s;
        accepted = accepted_is mask requests s;
        accepts = is_accepted mask requests s;
        member = member_is mask requests s;
        state = state_is mask requests s;
        stays = stays mask requests s;
      };
      no_bit = no_bit;
      no_bits = no_bits;
      begins = first_accepted;
      parts = grants_append;
      fair = is_fair;
    }
