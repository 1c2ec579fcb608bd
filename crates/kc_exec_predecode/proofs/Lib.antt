mod Fixed
mod Known
