-- The two bodies are valid.
use Rattle.std.proofs.Common.{◌≡◌, ◌+◌, Bool, true, false, ◌&&◌, cond, refl, arith}
use Rattle.std.specs.Prelude.{None}
use Rattle.am_names.specs.Names.{same_serial}
use Rattle.am_model.specs.ThinPath.{zero_end}
use Rattle.am_swap_image.specs.Examples.{fresh_body, asking_body, request}
use Rattle.am_swap_image.specs.Valid.{IsValid}

pub fresh_is_valid : IsValid zero_end None fresh_body
fresh_is_valid =
    record {
      valid =
          record {
            indexes = refl;
            mappings = refl;
            handlers = refl;
            handler_zero = refl;
            kinds = refl;
            counts = refl;
            records = refl;
            credits = refl;
            requests = refl;
            replies = refl;
            in_flight = refl;
            notices = refl;
            received = refl;
            each_answer = λ r. refl;
            all_answers = refl;
          };
      within = record { requests = omega arith; replies = omega arith; awaited = omega arith; received = omega arith; answers = omega arith };
      none_in_flight = refl;
      in_range = record {
        tag = omega arith;
        sum = omega arith;
        accepted = omega arith;
        mapped = refl;
        awaited = refl;
        handlers = refl;
        requests = refl;
        replies = refl;
        notices = refl;
        received = refl;
      };
    }

waits : (b : Bool) → 0 ≡ 0 + cond (b && false) 1 0
waits true = refl
waits false = refl

pub asking_is_valid : IsValid zero_end None asking_body
asking_is_valid =
    record {
      valid =
          record {
            indexes = refl;
            mappings = refl;
            handlers = refl;
            handler_zero = refl;
            kinds = refl;
            counts = refl;
            records = refl;
            credits = refl;
            requests = refl;
            replies = refl;
            in_flight = refl;
            notices = refl;
            received = refl;
            each_answer = λ r. waits (same_serial r request.serial);
            all_answers = refl;
          };
      within = record { requests = omega arith; replies = omega arith; awaited = omega arith; received = omega arith; answers = omega arith };
      none_in_flight = refl;
      in_range = record {
        tag = omega arith;
        sum = omega arith;
        accepted = omega arith;
        mapped = refl;
        awaited = refl;
        handlers = refl;
        requests = refl;
        replies = refl;
        notices = refl;
        received = refl;
      };
    }
