use Rattle.std.proofs.Common.{refl}
use Rattle.am_model_worked.proofs.blocked.Goals as goal

pub returns-clause-history : goal.returns-clause-history
returns-clause-history c = (
  record { in_range = refl; enabled = refl; outcome = refl; later = refl },
  (
    record { in_range = refl; enabled = refl; outcome = refl; later = refl },
    (
      record {
        in_range = refl;
        enabled = refl;
        outcome = refl;
        later = refl;
      },
      (
        record { in_range = refl; enabled = refl; outcome = refl; later = refl },
        (
          record { in_range = refl; enabled = refl; outcome = refl; later = refl },
          (
            record {
              in_range = refl;
              enabled = refl;
              outcome = refl;
              later = refl;
            },
            (
              record { in_range = refl; enabled = refl; outcome = refl; later = refl },
              (
                record { in_range = refl; enabled = refl; outcome = refl; later = refl },
                (
                  record {
                    in_range = refl;
                    enabled = refl;
                    outcome = refl;
                    later = refl;
                  },
                  (
                    record { in_range = refl; enabled = refl; outcome = refl; later = refl },
                    (
                      record { in_range = refl; enabled = refl; outcome = refl; later = refl },
                      (
                        record {
                          in_range = refl;
                          enabled = refl;
                          outcome = refl;
                          later = refl;
                        },
                        (
                          record { in_range = refl; enabled = refl; outcome = refl; later = refl },
                          (
                            record { in_range = refl; enabled = refl; outcome = refl; later = refl },
                            (
                              record {
                                in_range = refl;
                                enabled = refl;
                                outcome = refl;
                                later = refl;
                              },
                              (
                                record { in_range = refl; enabled = refl; outcome = refl; later = refl },
                                (
                                  record { in_range = refl; enabled = refl; outcome = refl; later = refl },
                                  (
                                    record {
                                      in_range = refl;
                                      enabled = refl;
                                      outcome = refl;
                                      later = refl;
                                    },
                                    (
                                      record { in_range = refl; enabled = refl; outcome = refl; later = refl },
                                      (
                                        record { in_range = refl; enabled = refl; outcome = refl; later = refl },
                                        (
                                          record {
                                            in_range = refl;
                                            enabled = refl;
                                            outcome = refl;
                                            later = refl;
                                          },
                                          (
                                            record { in_range = refl; enabled = refl; outcome = refl; later = refl },
                                            (
                                              record { in_range = refl; enabled = refl; outcome = refl; later = refl },
                                              (
                                                record {
                                                  in_range = refl;
                                                  enabled = refl;
                                                  outcome = refl;
                                                  later = refl;
                                                },
                                                (
                                                  record { in_range = refl; enabled = refl; outcome = refl; later = refl },
                                                  (
                                                    record { in_range = refl; enabled = refl; outcome = refl; later = refl },
                                                    (
                                                      record {
                                                        in_range = refl;
                                                        enabled = refl;
                                                        outcome = refl;
                                                        later = refl;
                                                      },
                                                      (
                                                        record { in_range = refl; enabled = refl; outcome = refl; later = refl },
                                                        (
                                                          record { in_range = refl; enabled = refl; outcome = refl; later = refl },
                                                          (
                                                            record {
                                                              in_range = refl;
                                                              enabled = refl;
                                                              outcome = refl;
                                                              later = refl;
                                                            },
                                                            (
                                                              record { in_range = refl; enabled = refl; outcome = refl; later = refl },
                                                              (
                                                                record { in_range = refl; enabled = refl; outcome = refl; later = refl },
                                                                (
                                                                  record {
                                                                    in_range = refl;
                                                                    enabled = refl;
                                                                    outcome = refl;
                                                                    later = refl;
                                                                  },
                                                                  (
                                                                    record { in_range = refl; enabled = refl; outcome = refl; later = refl },
                                                                    (
                                                                      record { in_range = refl; enabled = refl; outcome = refl; later = refl },
                                                                      (
                                                                        record {
                                                                          in_range = refl;
                                                                          enabled = refl;
                                                                          outcome = refl;
                                                                          later = refl;
                                                                        },
                                                                        (
                                                                          record { in_range = refl; enabled = refl; outcome = refl; later = refl },
                                                                          (
                                                                            record { in_range = refl; enabled = refl; outcome = refl; later = refl },
                                                                            (
                                                                              record {
                                                                                in_range = refl;
                                                                                enabled = refl;
                                                                                outcome = refl;
                                                                                later = refl;
                                                                              },
                                                                              (
                                                                                record { in_range = refl; enabled = refl; outcome = refl; later = refl },
                                                                                (
                                                                                  record { in_range = refl; enabled = refl; outcome = refl; later = refl },
                                                                                  (
                                                                                    record {
                                                                                      in_range = refl;
                                                                                      enabled = refl;
                                                                                      outcome = refl;
                                                                                      later = refl;
                                                                                    },
                                                                                    (
                                                                                      record { in_range = refl; enabled = refl; outcome = refl; later = refl },
                                                                                      (
                                                                                        record { in_range = refl; enabled = refl; outcome = refl; later = refl },
                                                                                        (
                                                                                          record {
                                                                                            in_range = refl;
                                                                                            enabled = refl;
                                                                                            outcome = refl;
                                                                                            later = refl;
                                                                                          },
                                                                                          (
                                                                                            record { in_range = refl; enabled = refl; outcome = refl; later = refl },
                                                                                            (
                                                                                              record { in_range = refl; enabled = refl; outcome = refl; later = refl },
                                                                                              (
                                                                                                record {
                                                                                                  in_range = refl;
                                                                                                  enabled = refl;
                                                                                                  outcome = refl;
                                                                                                  later = refl;
                                                                                                },
                                                                                                (
                                                                                                  record { in_range = refl; enabled = refl; outcome = refl; later = refl },
                                                                                                  (
                                                                                                    record { in_range = refl; enabled = refl; outcome = refl; later = refl },
                                                                                                    (
                                                                                                      record {
                                                                                                        in_range = refl;
                                                                                                        enabled = refl;
                                                                                                        outcome = refl;
                                                                                                        later = refl;
                                                                                                      },
                                                                                                      (
                                                                                                        record { in_range = refl; enabled = refl; outcome = refl; later = refl },
                                                                                                        (
                                                                                                          record { in_range = refl; enabled = refl; outcome = refl; later = refl },
                                                                                                          (
                                                                                                            record {
                                                                                                              in_range = refl;
                                                                                                              enabled = refl;
                                                                                                              outcome = refl;
                                                                                                              later = refl;
                                                                                                            },
                                                                                                            (
                                                                                                              record { in_range = refl; enabled = refl; outcome = refl; later = refl },
                                                                                                              (
                                                                                                                record { in_range = refl; enabled = refl; outcome = refl; later = refl },
                                                                                                                (
                                                                                                                  record {
                                                                                                                    in_range = refl;
                                                                                                                    enabled = refl;
                                                                                                                    outcome = refl;
                                                                                                                    later = refl;
                                                                                                                  },
                                                                                                                  (
                                                                                                                    record { in_range = refl; enabled = refl; outcome = refl; later = refl },
                                                                                                                    (record { in_range = refl; enabled = refl; outcome = refl; later = refl }, tt),
                                                                                                                  ),
                                                                                                                ),
                                                                                                              ),
                                                                                                            ),
                                                                                                          ),
                                                                                                        ),
                                                                                                      ),
                                                                                                    ),
                                                                                                  ),
                                                                                                ),
                                                                                              ),
                                                                                            ),
                                                                                          ),
                                                                                        ),
                                                                                      ),
                                                                                    ),
                                                                                  ),
                                                                                ),
                                                                              ),
                                                                            ),
                                                                          ),
                                                                        ),
                                                                      ),
                                                                    ),
                                                                  ),
                                                                ),
                                                              ),
                                                            ),
                                                          ),
                                                        ),
                                                      ),
                                                    ),
                                                  ),
                                                ),
                                              ),
                                            ),
                                          ),
                                        ),
                                      ),
                                    ),
                                  ),
                                ),
                              ),
                            ),
                          ),
                        ),
                      ),
                    ),
                  ),
                ),
              ),
            ),
          ),
        ),
      ),
    ),
  ),
)
