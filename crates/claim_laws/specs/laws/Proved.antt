-- Request E11's claim laws, proved.
use Rattle.std.specs.Prelude.{refl, List, ℕ, ◌<◌, get_or}
use Rattle.register_header.specs.declared.Options.{Options}
use Rattle.claim_agent.specs.definitions.Agent.{bridge_of}
use Rattle.claim_laws.specs.definitions.Editions.{ClaimLaws, Smaller, Editions}
use Rattle.claim_laws.specs.laws.Granules.{memory_both_ways, io_both_ways}
use Rattle.claim_laws.specs.laws.SameBytes.{bridge_same}
use Rattle.claim_laws.specs.laws.Steady.{primary_kept, secondary_kept}
use Rattle.claim_laws.specs.laws.Lacked.{inside_io_16, io_not_down, io_up, inside_memory_32, memory_not_down, memory_up, vga_ten_bits, lacked_no_part, plain, accepted_plain}

claim_laws : (o : Options) (part : List ℕ) (a : ℕ) → ClaimLaws o part a
claim_laws o part a =
    record {
      memory = memory_both_ways o part a;
      io = io_both_ways o part a;
      down = λ space e h. let k = primary_kept (bridge_of o part) space a e in (k.low h, k.high, k.same);
      up = λ space e h. (secondary_kept (bridge_of o part) space a e).same;
      status = λ n bridge other same. bridge_same o n part other same bridge;
      lacks = lacked_no_part o part;
      plain = plain o part;
    }

smaller : (o : Options) (part : List ℕ) → ((k : ℕ) → get_or part k 0 < 256) → (a : ℕ) → Smaller o part a
smaller o part bytes a =
    record {
      io_outside = inside_io_16 o part bytes a;
      io_not_down = io_not_down o part bytes a;
      io_up = io_up o part bytes a;
      memory_outside = inside_memory_32 o part bytes a;
      memory_not_down = memory_not_down o part bytes a;
      memory_up = memory_up o part bytes a;
      vga = vga_ten_bits o part;
    }

pub editions : Editions
editions = record { claims = claim_laws; smaller = smaller; bridge = refl; older = refl; accepted = accepted_plain }
